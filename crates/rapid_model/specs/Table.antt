-- Tables: who observes whom by explicit edges.
use Rattle.std.specs.Prelude.{ℕ, ◌≤◌, Bool, not, ◌&&◌, map, replicate, nat_lt, if◌then◌else◌, Option, Some, None, refl}
use Rattle.std.specs.FinSet as set
use Rattle.std.specs.FinMap as finmap
use Rattle.std.specs.Coded.{Coded, code_by, coded×, coded_ℕ}
use Rattle.rapid_model.specs.Limits.{most_members}
use Rattle.rapid_model.specs.Process.{Process, ProcessSet}
use Rattle.rapid_model.specs.Configuration.{Params, AreParams}
use Rattle.rapid_model.specs.Ring.{Observers}
use Rattle.rapid_model.specs.Reports.{report_cmp}
use Rattle.rapid_model.specs.Codes.{bytes_code, processes_code}

-- The observer of each subject and ring that have one.
abbrev pub TableEdges : Type 0
TableEdges = finmap.FinMap report_cmp Process

-- A table is its joiners and its edges: any process that is no joiner is a member.
pub record Table : Type 0 where
  pub params : Params
  pub joiners : ProcessSet
  pub edges : TableEdges

-- The reasons for which an edge is refused.
pub data TableFault : Type 0 where
  EdgeTwice : TableFault
  RingRange : TableFault
  TooMany : TableFault

-- A table with no joiners and no edges.
abbrev pub empty_table : Params → Table
empty_table params = record { params = params; joiners = set.empty; edges = finmap.empty }

-- The processes that have an observer on some ring.
unfoldable pub table_subjects : TableEdges → ProcessSet
table_subjects edges = set.from_list (map (λ x. x.0) (finmap.keys edges))

-- The members that have an observer on some ring.
unfoldable pub observed_members : Table → ProcessSet
observed_members t = set.difference (table_subjects t.edges) t.joiners

-- One more subject would be the 1,025th that is no joiner.
abbrev pub is_too_many : Table → Process → Bool
is_too_many t subject =
    not (set.contains t.joiners subject) && not (set.contains (observed_members t) subject) && not (nat_lt (set.len (observed_members t)) most_members)

-- Why an edge is refused: the first that holds.
unfoldable pub add_fault : Table → ℕ → Process → Option TableFault
add_fault t ring subject =
    if is_too_many t subject then Some TooMany
    else if not (nat_lt ring t.params.k) then Some RingRange
    else if finmap.contains_key t.edges (subject, ring) then Some EdgeTwice
    else None

-- The table with one more edge.
abbrev pub after_add : Table → ℕ → Process → Process → Table
after_add t ring observer subject = record t { edges = finmap.insert t.edges (subject, ring) observer }

-- The table with one more joiner.
abbrev pub after_joiner : Table → Process → Table
after_joiner t joiner = record t { joiners = set.insert t.joiners joiner }

-- Parameters are in order, and at most 1,024 members are observed.
pub record IsTable (t : Table) : Type 0 where
  pub params : AreParams t.params
  pub few : set.len (observed_members t) ≤ most_members

-- The observers of a table are those of its edges, and its identifier is 32 zero bytes.
unfoldable pub table_observers : Table → Observers
table_observers t =
    record {
      params = t.params;
      id = replicate 32 0;
      is_member = λ p. not (set.contains t.joiners p);
      observer = λ k s. if nat_lt k t.params.k then finmap.get t.edges (s, k) else None;
    }

-- The code of edges, by which a proof tells them apart.
abbrev pub edges_code : Coded TableEdges
edges_code = finmap.code (coded× bytes_code coded_ℕ) bytes_code

-- The code of parameters.
abbrev pub params_code : Coded Params
params_code =
    code_by (ℕ × (ℕ × ℕ)) (coded× coded_ℕ (coded× coded_ℕ coded_ℕ)) (λ p. (p.k, (p.h, p.l))) (λ p. record { k = p.0; h = p.1.0; l = p.1.1 }) (λ _. refl)

-- The code of tables.
abbrev pub table_code : Coded Table
table_code =
    code_by (Params × (ProcessSet × TableEdges))
    (coded× params_code (coded× processes_code edges_code))
    (λ t. (t.params, (t.joiners, t.edges)))
    (λ p. record { params = p.0; joiners = p.1.0; edges = p.1.1 })
    (λ _. refl)
