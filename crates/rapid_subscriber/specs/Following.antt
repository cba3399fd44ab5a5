-- Clauses of public calls cite this file.
-- What a subscriber is told of the views that come, and of who joined and who left by them.
use Rattle.std.specs.Prelude.{◌≡◌, List, [], Option, None, Some}
use Rattle.rapid_model.specs.Process.{Process}
use Rattle.rapid_model.specs.Configuration.{Configuration}
use Rattle.rapid_desk.specs.declared.notice.Notice.{Notice}
use Rattle.rapid_desk.specs.declared.subscription.Taken.TheVariants as taken
use Rattle.rapid_desk.specs.Taking.{Told}
use Rattle.rapid_subscriber.specs.Changing.{members_outside}
use Rattle.rapid_subscriber.specs.declared.changes.Changes.{Changes}
use Rattle.rapid_subscriber.specs.declared.subscriber.Next.{Next}
use Rattle.rapid_subscriber.specs.declared.subscriber.Next.TheVariants as next

-- Who joined by a view: all its members if no view was known before.
abbrev pub joined_since : Option Configuration → Configuration → List Process
joined_since None view = view.members
joined_since (Some before) view = members_outside view before

-- Who left by a view: nobody if no view was known before.
abbrev pub left_since : Option Configuration → Configuration → List Process
left_since None view = []
left_since (Some before) view = members_outside before view

-- The lists of a change are those of this view, after the one that was known before.
abbrev pub AreChangesSince : Option Configuration → Configuration → Changes → Type 0
AreChangesSince before view changes = (changes.joined ≡ joined_since before view) × (changes.left ≡ left_since before view)

-- What a subscriber has: what it took of what was put for it, the last view that it was told, and a view that has come
-- and that it was not told yet.
pub record Standing : Type 0 where
  pub took : List Notice
  pub present : Option Configuration
  pub come : Option Configuration

-- This view has come: it was there before, or is the next that was put.
abbrev pub HasCome : Option Configuration → List Notice → List Notice → Configuration → Type 0
HasCome (Some there) old new view = (there ≡ view) × (new ≡ old)
HasCome None old new view = Told (taken.Change view) old new

-- What an answer says of what a subscriber had before and has now.
abbrev pub Tells : Next → Standing → Standing → Type 0
Tells (next.Change changes) old new =
    (view : Configuration) × HasCome old.come old.took new.took view × AreChangesSince old.present view changes × (new.present ≡ Some view) × (new.come ≡ None)
Tells next.Nothing old new = Told taken.Empty old.took new.took × (old.come ≡ None) × (new.come ≡ None) × (new.present ≡ old.present)
Tells next.Lagged old new = Told taken.Lagged old.took new.took × (old.come ≡ None) × (new.come ≡ None) × (new.present ≡ old.present)
Tells next.Closed old new = Told taken.Closed old.took new.took × (old.come ≡ None) × (new.come ≡ None) × (new.present ≡ old.present)

-- There was no memory to tell a view that has come: it waits for the next call.
abbrev pub Keeps : Standing → Standing → Type 0
Keeps old new = (view : Configuration) × HasCome old.come old.took new.took view × (new.come ≡ Some view) × (new.present ≡ old.present)
