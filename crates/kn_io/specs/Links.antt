-- What is told of a link to pods.
use Rattle.std.specs.Prelude.{◌≡◌, ℕ, List, [], ◌∷◌, ◌++◌, Bool, Option, None, Some, Result, ⊤}
use Rattle.std.specs.Result.{result_ok}
use Rattle.kn_io.specs.declared.records.Call.{Call}
use Rattle.kn_io.specs.declared.records.Probe.{Probe}

-- the calls and the probes that were made, each in order
pub record Link : Type 0 where
  pub calls : List Call
  pub probes : List Probe

-- nothing was called and nothing probed
abbrev pub unused : Link
unused = record { calls = []; probes = [] }

-- with one call more, of this pod, with its reply or none
abbrev pub called : {E : Type 0} → Link → ℕ → List ℕ → Result (List ℕ) E → Link
called link pod request result = record link { calls = link.calls ++ record { pod = pod; request = request; reply = result_ok result } ∷ [] }

-- with one probe more, of this pod, with its answer or none
abbrev pub probed : {E : Type 0} → Link → ℕ → Result Bool E → Link
probed link pod result = record link { probes = link.probes ++ record { pod = pod; answer = result_ok result } ∷ [] }

-- a link that tells now told before, and what it tells grew by this. A link that has stopped telling never tells again
abbrev pub Tells : Option Link → Option Link → (Link → Link) → Type 0
Tells old None more = ⊤
Tells None (Some now) more = ⊥
Tells (Some before) (Some now) more = now ≡ more before
