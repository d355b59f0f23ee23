use Rattle.std.proofs.Common.{refl}
use Rattle.std.specs.Prelude.{option_map}
use Rattle.kn_event.specs.declared.entry.Decision.{Decision}
use Rattle.kn_trace.specs.Events.{opening}
use Rattle.kn_trace.specs.Rows.{arrived_by, begun_by, decision_by, ended_by, expired_by, refused_by}
use Rattle.kn_show_series.specs.Steps.{failed_by}
use Rattle.kn_show_series.proofs.Opened.{counts_of-none, each_row-map_none}
use Rattle.kn_show_series.proofs.laws.opening_laws.Goals as goal

pub returns : goal.returns
returns c = λ s start step from k.
    let none = c.part_laws.ensures.rows.opening_none in
    let want = λ (d : Decision). d.want in
    counts_of-none step from k (opening s start) (none arrived_by (λ p n. refl) (λ x. refl) s start) (none refused_by (λ p n. refl) (λ x. refl) s start) (none ended_by (λ p n. refl) (λ x. refl) s start)
    (none failed_by (λ p n. refl) (λ x. refl) s start) (none expired_by (λ p n. refl) (λ x. refl) s start)
    (each_row-map_none decision_by want (opening s start) (none (λ x. option_map want (decision_by x)) (λ p n. refl) (λ x. refl) s start)) (none begun_by (λ p n. refl) (λ x. refl) s start)
