use Rattle.std.proofs.Common.{◌≡◌, refl, sym, ap, subst, ◌∙◌, ◌+◌, ◌*◌, arith}
use Rattle.kn_scaling.specs.Average.{second_of}
use Rattle.kn_stats.specs.declared.tally.PodTally.{PodTally}
use Rattle.kn_stats.specs.Changes.{at, ends_assigned, is_arrival_at, is_assigned, is_end_at, time_taken}
use Rattle.kn_stats.specs.Pods.{found, fresh, so_far}
use Rattle.kn_stats.specs.Totals.{left_of}
use Rattle.kn_stats.specs.Stands.{IsStatsOf, StatsState}
use Rattle.kn_stats.proofs.Closings.{area_is, proxied_is}
use Rattle.kn_stats.proofs.stats.Stats.pod_area.Goals as goal

pod_is : (c : goal.After-so_far) → c.refresh.new.self ≡ fresh (second_of c.self.inside.totals.time) (found c.args.p c.self.inside.pods.items)
pod_is c = c.refresh.ensures ∙ rw (c.second.ensures, c.found-pod.ensures, c.deref.ensures.value) refl

proxied_of : (c : goal.After-so_far) → c.so_far-proxied.result ≡ so_far (left_of c.self.inside.totals.time) (fresh (second_of c.self.inside.totals.time) (found c.args.p c.self.inside.pods.items)).proxied
proxied_of c =
    c.so_far-proxied.ensures ∙ ap (λ l. so_far l c.refresh.new.self.proxied) c.left-left.ensures.left ∙ ap (λ (q : PodTally). so_far (left_of c.self.inside.totals.time) q.proxied) (pod_is c)

direct_of : (c : goal.After-so_far) → c.so_far.result ≡ so_far (left_of c.self.inside.totals.time) (fresh (second_of c.self.inside.totals.time) (found c.args.p c.self.inside.pods.items)).direct
direct_of c =
    c.so_far.ensures ∙ ap (λ l. so_far l c.refresh.new.self.direct) c.left-left.ensures.left ∙ ap (λ (q : PodTally). so_far (left_of c.self.inside.totals.time) q.direct) (pod_is c)

pub returns-clause-area : goal.returns-clause-area
returns-clause-area c = λ cs gone is there.
    let time = ap (λ (s : StatsState). s.time) c.self.view_is in
    let before = subst (λ s. IsStatsOf s cs gone) (sym c.self.view_is) is in
    let taken = area_is _ cs gone c.args.p c.self.invariant.within before there in
    let sum : c.so_far.result + c.so_far-proxied.result ≡ time_taken (is_arrival_at c.args.p) (is_end_at c.args.p) (1000 * second_of c.self.inside.totals.time) c.self.inside.totals.time cs = omega (arith, taken, direct_of c, proxied_of c) in
    sum ∙ ap (λ t. time_taken (is_arrival_at c.args.p) (is_end_at c.args.p) (1000 * second_of t) t cs) time

pub returns-clause-proxied : goal.returns-clause-proxied
returns-clause-proxied c = λ cs gone is there.
    let time = ap (λ (s : StatsState). s.time) c.self.view_is in
    let before = subst (λ s. IsStatsOf s cs gone) (sym c.self.view_is) is in
    proxied_of c ∙ proxied_is _ cs gone c.args.p c.self.invariant.within before there
    ∙ ap (λ t. time_taken (at is_assigned c.args.p) (at ends_assigned c.args.p) (1000 * second_of t) t cs) time
