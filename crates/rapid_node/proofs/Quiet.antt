-- Which steps say nothing.
use Rattle.std.proofs.Common.{◌≡◌, ℕ, zero, suc, Bool, false, List, [], refl, sym, ap, subst, ◌∙◌, Option, Some, None, length, arith}
use Rattle.std.specs.Prelude.{nat_lt}
use Rattle.rapid_model.specs.Bytes.{ConfigurationId}
use Rattle.rapid_model.specs.Process.{Process}
use Rattle.rapid_model.specs.Configuration.{Configuration}
use Rattle.rapid_model.specs.Message.{Message}
use Rattle.rapid_model.specs.Node.{Node, Phase, Joining, Member, Removed, Halted, MemberState, Decisions, Event, EdgeDown, Tick, Receive, Outcome, outputs, has_installed}
use Rattle.rapid_model.specs.NodeStep.{node_step, step_tick, step_edge_down, step_receive, settle, settle_at, stays_member, idle}
use Rattle.rapid_model.specs.Member.{Work}
use Rattle.rapid_model.specs.Tick.{on_tick}
use Rattle.rapid_model.specs.Receive.{receive_as_member}
use Rattle.rapid_member.specs.Quiet as member
use Rattle.rapid_node.specs.Quiet.{SaysNothing, IsQuiet}

not_below : (n : ℕ) → nat_lt n n ≡ false
not_below n = Prim.grind arith

-- a step that does nothing
idle_says_nothing : (n : Node) (o : Outcome) → Some (idle n) ≡ Some o → SaysNothing n o
idle_says_nothing n o e =
    let same : idle n ≡ o = cc in
    subst (SaysNothing n) same (record { sends = refl; installs = not_below (length n.installed) })

-- work that sends nothing and decides nothing
settles_quietly : (n : Node) (w : Work) (o : Outcome) → member.SaysNothing w → settle n w ≡ Some o → SaysNothing n o
unfolding settle
settles_quietly n w o h e =
    let stays : Some (stays_member n w) ≡ Some o = sym (ap (settle_at n w) h.decided) ∙ e in
    let same : stays_member n w ≡ o = cc in
    subst (SaysNothing n) same (record { sends = ap (outputs n.me) h.effects; installs = not_below (length n.installed) })

-- an edge that went down
pub edge_down_is_quiet : (n : Node) (id : ConfigurationId) (k : ℕ) (p : Process) → IsQuiet n (EdgeDown id k p)
unfolding node_step
edge_down_is_quiet n id k p o = by n.phase
  where
    by : (ph : Phase) → step_edge_down n ph id k p ≡ Some o → SaysNothing n o
    by (Joining j) e = idle_says_nothing n o e
    by (Member s) e = settles_quietly n _ o (record { effects = refl; decided = refl }) e
    by (Removed c) e = idle_says_nothing n o e
    by (Halted shown) e = idle_says_nothing n o e

-- a tick of a member at which it sends nothing
pub tick_is_quiet : (n : Node) (s : MemberState) → n.phase ≡ Member s → member.SaysNothing (on_tick s) → IsQuiet n Tick
unfolding node_step
tick_is_quiet n s is h o e = settles_quietly n (on_tick s) o h (sym (ap (step_tick n) is) ∙ e)

-- a tick after the removal, and one after the halt
pub removed_is_quiet : (n : Node) (c : Configuration) → n.phase ≡ Removed c → IsQuiet n Tick
unfolding node_step
removed_is_quiet n c is o e = idle_says_nothing n o (sym (ap (step_tick n) is) ∙ e)

pub halted_is_quiet : (n : Node) (shown : Option Configuration) → n.phase ≡ Halted shown → IsQuiet n Tick
unfolding node_step
halted_is_quiet n shown is o e = idle_says_nothing n o (sym (ap (step_tick n) is) ∙ e)

-- a message at a member at which it sends nothing
pub message_is_quiet : (n : Node) (s : MemberState) (m : Message) → n.phase ≡ Member s → ((ds : Decisions) → member.SaysNothing (receive_as_member ds s m.sender m.body)) → IsQuiet n (Receive m)
unfolding node_step
message_is_quiet n s m is h o e = settles_quietly n (receive_as_member n.decisions s m.sender m.body) o (h n.decisions) (sym (ap (λ (ph : Phase). step_receive n ph m) is) ∙ e)
