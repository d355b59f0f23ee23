-- How many requests are live, and how many pods are wanted of a revision that scales.
use Rattle.std.specs.Prelude.{ℕ, Option, None, Some, length}
use Rattle.kn_event.specs.declared.revision.Kind.{Kind}
use Rattle.kn_event.specs.declared.revision.Kind.TheVariants as kind
use Rattle.kn_event.specs.declared.revision.Spec.{Spec}
use Rattle.kn_trace.specs.Scale.{wanted}
use Rattle.kn_trace.specs.Trace.{Trace, live}

abbrev pub wanted_where : Kind → Spec → Trace → Option ℕ
wanted_where (kind.Fixed n) s c = None
wanted_where kind.Kpa s c = Some (wanted s c)

-- none where the revision doesn't scale
abbrev pub wanted_now : Spec → Trace → Option ℕ
wanted_now s c = wanted_where s.kind s c

-- how many requests are live
abbrev pub count_live : Trace → ℕ
count_live c = length (live c)
