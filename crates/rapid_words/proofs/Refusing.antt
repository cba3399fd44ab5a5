-- Words that are refused.
use Rattle.std.proofs.Common.{◌≡◌, ℕ, List, codes, refl, sym, ap, subst, ◌∙◌, Option, Some, None, IfSome, IfNone, Result, Err, inl, inr}
use Rattle.std.specs.Prelude.{option_map, ◌≤◌}
use Rattle.std.specs.Str.Parse.{ParsesUnsigned}
use Rattle.clap.specs.Words.{Row, Text, HasKind, ReadsOne, fault_of, kind_of, one_of, one_text, rows_of, subcommand_of}
use Rattle.clap.specs.declared.error.Error.{Error}
use Rattle.clap.specs.declared.parser.matches.Found.{Found}
use Rattle.clap.proofs.WalkLemmas.{one_text-rows}
use Rattle.rapid_model.specs.Configuration.{AreParams}
use Rattle.rapid_words.specs.Grammar.{grammar}
use Rattle.rapid_words.specs.Asked.{setting_in}
use Rattle.rapid_words.specs.Refused.{IsFault, IsNumber, IsSetting, CanDo, AreRefused}
use Rattle.rapid_words.specs.declared.words.Setting.{Setting}

-- An option of which no number is read has none of as many bits.
pub no_number : (E : Type 0) (G : List ℕ → Result ℕ E → Type 0) (k : ℕ) (f : Found) (id : Text) (r : Option ℕ)
    → ((t : List ℕ) → one_text f id ≡ Some t → ReadsOne G t r) → ((u : List ℕ) (x : Result ℕ E) → G u x → ParsesUnsigned k 10 u x)
    → IfNone r (¬ IsNumber k (one_of id (rows_of f)))
no_number E G k f id (Some n) read only = tt
no_number E G k f id None read only = by (one_text f id) refl
  where
    by : (o : Option (List ℕ)) → one_text f id ≡ o → ¬ IsNumber k (one_of id (rows_of f))
    by None e = subst (λ x. ¬ IsNumber k x) (sym e ∙ one_text-rows f id) (λ given. given)
    by (Some t) e = subst (λ x. ¬ IsNumber k x) (sym e ∙ one_text-rows f id) (let r = read t e in only t (Err r.0) r.1)

-- Without one of its options there is no setting.
pub no_k : (rows : List Row) → ¬ IsNumber 8 (one_of (codes "k") rows) → ¬ IsSetting rows
no_k rows lacks s = lacks s.k

pub no_h : (rows : List Row) → ¬ IsNumber 8 (one_of (codes "h") rows) → ¬ IsSetting rows
no_h rows lacks s = lacks s.h

pub no_l : (rows : List Row) → ¬ IsNumber 8 (one_of (codes "l") rows) → ¬ IsSetting rows
no_l rows lacks s = lacks s.l

pub no_nodes : (rows : List Row) → ¬ IsNumber 16 (one_of (codes "nodes") rows) → ¬ IsSetting rows
no_nodes rows lacks s = lacks s.nodes

pub no_workers : (rows : List Row) → ¬ IsNumber 16 (one_of (codes "workers") rows) → ¬ IsSetting rows
no_workers rows lacks s = lacks s.workers

pub no_turns : (rows : List Row) → ¬ IsNumber 16 (one_of (codes "turns") rows) → ¬ IsSetting rows
no_turns rows lacks s = lacks s.turns

-- Numbers that do not fit are no setting.
pub misfit : (rows : List Row) (s : Setting) → setting_in rows ≡ Some s → ¬ (AreParams s.params × (s.workers ≤ 32)) → ¬ IsSetting rows
misfit rows s is never fits = never (subst (λ o. IfSome o (λ s. AreParams s.params × (s.workers ≤ 32))) is fits.fits)

-- A command of another name, or a cluster without a setting, cannot be done.
pub cannot_do : {X : Type 0} (o : Option X) (f : X → Text) (g : X → List Row) → ¬ (option_map f o ≡ Some (codes "detect")) → ¬ (option_map f o ≡ Some (codes "sim"))
    → (option_map f o ≡ Some (codes "cluster") → (rows : List Row) → option_map {T = Text × List Row} {U = List Row} (λ p. p.1) (option_map {T = X} {U = Text × List Row} (λ b. (f b, g b)) o) ≡ Some rows → ¬ IsSetting rows)
    → ¬ CanDo (option_map {T = X} {U = Text × List Row} (λ b. (f b, g b)) o)
cannot_do None f g detect sim cluster can = can
cannot_do (Some b) f g detect sim cluster (inl is) = detect (ap Some is)
cannot_do (Some b) f g detect sim cluster (inr (inl is)) = sim (ap Some is)
cannot_do (Some b) f g detect sim cluster (inr (inr can)) = cluster (ap Some can.0) (g b) refl can.1

-- Words whose fault was answered are refused.
pub refused_by : (e : Error) (words : List Text) → HasKind (fault_of grammar words) e → IsFault (kind_of e) → AreRefused words
refused_by e words (inl memory) fault = absurd (subst IsFault memory fault)
refused_by e words (inr among) fault = inl (kind_of e, fault, among)

-- Words of which nothing can be done are refused.
pub refused_so : {found : Option (Text × List Row)} (words : List Text) → found ≡ subcommand_of grammar words → ¬ CanDo found → AreRefused words
refused_so words is never = inr (subst (λ x. ¬ CanDo x) is never)
