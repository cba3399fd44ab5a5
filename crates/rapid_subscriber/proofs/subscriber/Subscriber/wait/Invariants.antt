use Rattle.std.proofs.Common.{◌≡◌}
use Rattle.rapid_subscriber.proofs.subscriber.Subscriber.wait.Given as goal

abbrev pub invariant-loop : goal.invariant-loop
invariant-loop g l =
    (l.self.subscription.taken ≡ l.initial.self.subscription.taken) × (l.self.subscription.queue ≡ l.initial.self.subscription.queue) × (l.self.subscription.room ≡ l.initial.self.subscription.room) × (l.self.present ≡ l.initial.self.present) × (l.self.come ≡ l.initial.self.come)
