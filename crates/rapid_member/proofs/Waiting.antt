-- Outboxes in which no alert waits to be flushed.
use Rattle.std.proofs.Common.{◌≡◌, ◌+◌, Bool, false, List, [], ◌∷◌, length, refl, ap, ◌∙◌, arith, Option, Some, None}
use Rattle.std.specs.Prelude.{is_some}
use Rattle.rapid_model.specs.Alert.{Alert}
use Rattle.rapid_model.specs.Batch.{batch_of}
use Rattle.rapid_model.specs.Outbox.{Outbox, unflushed, flush}

no_batch : (xs : List Alert) (b : Option (List Alert)) → b ≡ batch_of xs → is_some b ≡ false → xs ≡ []
no_batch [] b e h = refl
no_batch (x ∷ xs) None e h = cc
no_batch (x ∷ xs) (Some ys) e h = cc

-- if none waits, a flush changes nothing
pub still_flushed : (o : Outbox) → unflushed o ≡ [] → flush o ≡ o
still_flushed o e =
    let same : o.flushed + length (unflushed o) ≡ o.flushed = ap (λ xs. o.flushed + length xs) e ∙ omega arith in
    ap (λ n. record { raised = o.raised; flushed = n }) same

-- if none waits, there is no batch
pub none_flushed : (o : Outbox) → unflushed o ≡ [] → batch_of (unflushed o) ≡ None
none_flushed o e = ap batch_of e

-- if a flush gave no batch, none waits after it
pub all_flushed : (o new : Outbox) (b : Option (List Alert)) (waits : Bool) → new ≡ flush o → b ≡ batch_of (unflushed o) → waits ≡ is_some b → waits ≡ false → unflushed new ≡ []
all_flushed o new b waits same e w h =
    let none : unflushed o ≡ [] = no_batch (unflushed o) b e cc in
    ap unflushed (same ∙ still_flushed o none) ∙ none
