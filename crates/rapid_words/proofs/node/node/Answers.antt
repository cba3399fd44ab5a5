use Rattle.std.proofs.Common.{rules, ◌≡◌, ap, ap₂, true, codes, ◌∙◌}
use Rattle.std.specs.Prelude.{pos}
use Rattle.std.proofs.lemmas.Result.{IfOk-weaker}
use Rattle.clap.specs.Simple.{app_of_fields}
use Rattle.clap.specs.Words.{Rule, rule_of, app_of, new_app, with_rule}
use Rattle.clap.specs.declared.builder.arg.Arg.{Arg}
use Rattle.rapid_words.specs.Grammar.{text_option, number_option}
use Rattle.rapid_words.proofs.Grammars.{after_params}
use Rattle.rapid_words.proofs.node.node.Goals as goal

pub returns : goal.returns
returns c =
    let named : rule_of c.text-listen.result ≡ text_option (codes "listen") = search rules in
    let listen_is : rule_of c.required.result ≡ record (text_option (codes "listen")) { required = true } = ap rule_of c.required.ensures ∙ ap (λ (r : Rule). record r { required = true }) named in
    let id_is : rule_of c.text-id.result ≡ text_option (codes "id") = search rules in
    let tags_is : rule_of c.text-tags.result ≡ text_option (codes "tags") = search rules in
    let join_is : rule_of c.text-join.result ≡ text_option (codes "join") = search rules in
    let tick_is : rule_of c.tick_ms.result ≡ number_option (codes "tick-ms") (codes "0") (pos 0) (pos 60000) = search rules in
    let probers_is : rule_of c.probers.result ≡ number_option (codes "probers") (codes "1") (pos 1) (pos 16) = search rules in
    let begin : app_of c.after_help.result ≡ new_app (codes "node") = ap app_of_fields c.after_help.ensures ∙ ap app_of_fields c.about.ensures ∙ c.new.ensures.app in
    let one = c.in_ok-arg.ensures.shape (ap (λ (a : Arg). a.global) c.required.ensures ∙ c.text-listen.ensures.local) ∙ ap₂ with_rule begin listen_is in
    let two = c.in_ok-arg-2.ensures.shape (search rules) ∙ ap₂ with_rule one id_is in
    let three = c.in_ok-arg-3.ensures.shape (search rules) ∙ ap₂ with_rule two tags_is in
    let four = c.in_ok-command.ensures.shape (search rules) ∙ ap₂ with_rule three join_is in
    let all = c.in_ok-with_params.ensures.app ∙ after_params four in
    let ticking = c.in_ok-arg-4.ensures.shape (search rules) ∙ ap₂ with_rule all tick_is in
    record { app = IfOk-weaker c.arg-6.result _ _ (λ r h. h.shape (search rules) ∙ ap₂ with_rule ticking probers_is) c.arg-6.ensures }
