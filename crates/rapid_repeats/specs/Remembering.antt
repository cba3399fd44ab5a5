-- Clauses of public calls cite this file.
-- What a filter of repeats keeps.
use Rattle.std.specs.Prelude.{◌≡◌, ◌≤◌, ℕ, Bool, true, false, List, length, All, Contains, Some}
use Rattle.rapid_model.specs.Configuration.{Configuration, configuration_id, is_member}
use Rattle.rapid_model.specs.Limits.{most_kept_of_members, most_kept_of_others}
use Rattle.rapid_model.specs.Message.{Message}
use Rattle.rapid_repeats.specs.Repeating.{Passed, WasPassed, IsRepeat, of_members_in}

-- A filter of repeats: its configuration, how many ticks there were since that was entered, and which messages it
-- keeps. Of those that are not of members it keeps also how many ticks there had been when they were let through.
pub record Filter : Type 0 where
  pub configuration : Configuration
  pub ticks : ℕ
  pub members : List Message
  pub others : List Passed

-- Repeats of the message are looked for in this configuration: it is what members alone are to say, and a member says
-- it, or it is what others say too.
pub record IsSoughtOf (c : Configuration) (of_members : Bool) (m : Message) : Type 0 where
  pub body : of_members_in (configuration_id c) m.body ≡ Some of_members
  pub member : of_members ≡ true → is_member c m.sender ≡ true

-- In this configuration, which was entered this many ticks ago, these messages were let through. All that is kept is of
-- these, and repeats of it are looked for. It is at most a batch and a fast vote of each member, and 4,096 messages of
-- others.
pub record Remembers (r : Filter) (c : Configuration) (now : ℕ) (passed : List Passed) : Type 0 where
  pub configuration : r.configuration ≡ c
  pub ticks : r.ticks ≡ now
  pub members : All (WasPassed passed) r.members
  pub others : All (Contains passed) r.others
  pub members_sought : All (IsSoughtOf c true) r.members
  pub others_sought : All (λ p. IsSoughtOf c false p.message) r.others
  pub few_members : length r.members ≤ most_kept_of_members
  pub few_others : length r.others ≤ most_kept_of_others

-- It is the filter of some configuration.
abbrev pub IsFilter : Filter → Type 0
IsFilter r = (c : Configuration) × (now : ℕ) × (passed : List Passed) × Remembers r c now passed

-- Repeats of it are looked for, and it is a member's if members alone are to say it.
abbrev pub IsSought : Configuration → Message → Type 0
IsSought c m = (of_members : Bool) × IsSoughtOf c of_members m

-- What is kept stays.
abbrev pub KeepsSame : Filter → Filter → Type 0
KeepsSame old new = (new.members ≡ old.members) × (new.others ≡ old.others)

-- Whatever was let through by this filter since its configuration was entered, the message is a repeat.
abbrev pub IsRepeatFor : Filter → Message → Type 0
IsRepeatFor r m = (c : Configuration) (now : ℕ) (passed : List Passed) → Remembers r c now passed → IsRepeat (configuration_id c) now passed m
