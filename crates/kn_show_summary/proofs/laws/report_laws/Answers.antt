use Rattle.std.proofs.Common.{refl}
use Rattle.kn_event.specs.declared.revision.Spec.{Spec}
use Rattle.kn_trace.specs.Report.{totals}
use Rattle.kn_trace.specs.Trace.{Trace}
use Rattle.kn_show_summary.specs.Counted.{AgreesWithReport, counted}
use Rattle.kn_show_summary.proofs.laws.report_laws.Goals as goal

agrees : (s : Spec) (c : Trace) → AgreesWithReport s c
unfolding counted totals
agrees s c = record { admitted = refl; direct = refl; queue_full = refl; overload = refl; ok = refl; failed = refl; expired = refl; cancelled = refl; lost = refl; decisions = refl }

pub returns : goal.returns
returns c = agrees
