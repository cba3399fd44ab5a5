use Rattle.std.proofs.Common.{◌≡◌, ap, ap₂, true, codes, ◌∙◌}
use Rattle.std.proofs.lemmas.Result.{IfOk-weaker}
use Rattle.clap.specs.Simple.{app_of_fields, on_top}
use Rattle.clap.specs.Words.{App, Shape, app_of, new_app, with_subcommand}
use Rattle.clap.proofs.SimpleLemmas.{plain_fields}
use Rattle.rapid_words.specs.Grammar.{program_words, cluster_words, node_words}
use Rattle.rapid_words.proofs.words.grammar.Goals as goal

pub returns : goal.returns
returns c =
    let plain = λ (a : App). a.top.is_plain in
    let top = λ (a : App). a.top in
    let detect_is : app_of c.after_help-detect.result ≡ new_app (codes "detect") = ap app_of_fields c.after_help-detect.ensures ∙ ap app_of_fields c.about.ensures ∙ c.new.ensures.app in
    let sim_is : app_of c.after_help-sim.result ≡ new_app (codes "sim") = ap app_of_fields c.after_help-sim.ensures ∙ ap app_of_fields c.about-2.ensures ∙ c.new-2.ensures.app in
    let program_is : app_of c.subcommand_required.result ≡ program_words = ap app_of_fields c.subcommand_required.ensures
    ∙ ap (on_top (λ (s : Shape). record s { subcommand_required = true })) (ap app_of_fields c.after_help.ensures ∙ ap app_of_fields c.version.ensures
    ∙ ap (on_top (λ (s : Shape). record s { has_version = true })) (ap app_of_fields c.about-3.ensures ∙ c.new-3.ensures.app)) in
    let cluster_is : app_of c.in_ok-cluster.field-0 ≡ cluster_words = c.in_ok-cluster.ensures.app in
    let node_is : app_of c.in_ok-node.field-0 ≡ node_words = c.in_ok-node.ensures.app in
    let one = c.in_ok-subcommand.ensures.shape (plain_fields _ (ap plain detect_is)).globals ∙ ap₂ with_subcommand program_is (ap top detect_is) in
    let two = c.in_ok-subcommand-2.ensures.shape (plain_fields _ (ap plain sim_is)).globals ∙ ap₂ with_subcommand one (ap top sim_is) in
    let three = c.in_ok-subcommand-3.ensures.shape (plain_fields _ (ap plain cluster_is)).globals ∙ ap₂ with_subcommand two (ap top cluster_is) in
    record { app = IfOk-weaker c.subcommand-4.result _ _ (λ r h. h.shape (plain_fields _ (ap plain node_is)).globals ∙ ap₂ with_subcommand three (ap top node_is)) c.subcommand-4.ensures }
