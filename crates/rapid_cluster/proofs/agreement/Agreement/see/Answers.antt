use Rattle.std.proofs.Common.{◌≡◌, ap, sym, ◌∙◌, true, false, subst, ◌∷◌, [], ◌++◌}
use Rattle.std.specs.List.{list_any}
use Rattle.rapid_cluster.specs.ClusterText.{differ}
use Rattle.rapid_cluster.specs.Noting.{Notes}
use Rattle.rapid_cluster.proofs.Noting.{same, noted_split, noted_differs, noted_again, noted_new}
use Rattle.rapid_cluster.proofs.agreement.Agreement.see.Goals as goal

pub returns-then-self : goal.returns-then-self
returns-then-self c = λ seen n. noted_split seen _ _ _ c.if-self.true n

pub returns-then-differs_from : goal.returns-then-differs_from
returns-then-differs_from c =
    let kept = c.as_slice.ensures.value in
    let differs : list_any (differ c.args.stamp.now) c.args.self.now.kept.items ≡ true = ap (list_any (differ c.args.stamp.now)) (sym kept) ∙ sym c.differs_from.ensures ∙ c.if-differs_from.true in
    λ seen n. noted_differs seen _ _ _ c.if-self.false differs n

pub returns-in_ok-push : goal.returns-in_ok-push
returns-in_ok-push c =
    let kept = c.as_slice.ensures.value in
    let none : list_any (differ c.args.stamp.now) c.args.self.now.kept.items ≡ false = ap (list_any (differ c.args.stamp.now)) (sym kept) ∙ sym c.differs_from.ensures ∙ c.if-differs_from.false in
    λ seen n. subst (λ xs. Notes (seen ++ c.args.stamp.now ∷ []) xs c.args.self.now.split) (sym c.in_ok-push.ensures.items) (noted_new seen _ _ _ c.if-self.false none n)

pub returns-else-not-is_among : goal.returns-else-not-is_among
returns-else-not-is_among c =
    let kept = c.as_slice.ensures.value in
    let none : list_any (differ c.args.stamp.now) c.args.self.now.kept.items ≡ false = ap (list_any (differ c.args.stamp.now)) (sym kept) ∙ sym c.differs_from.ensures ∙ c.if-differs_from.false in
    let again : list_any (same c.args.stamp.now) c.args.self.now.kept.items ≡ true = ap (list_any (same c.args.stamp.now)) (sym c.as_slice-2.ensures.value) ∙ sym c.is_among.ensures ∙ c.if-not-is_among.false in
    λ seen n. noted_again seen _ _ _ c.if-self.false none again n
