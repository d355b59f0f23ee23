-- The load of a second, entry by entry.
use Rattle.std.proofs.Common.{◌≡◌, ℕ, ◌+◌, ◌*◌, [], ◌∷◌, ◌++◌, ◌∙◌}
use Rattle.std.specs.Prelude.{Option, option_map}
use Rattle.std.specs.List.{sum_by}
use Rattle.std.proofs.lemmas.List.Sums.{sum_by_push}
use Rattle.kn_event.specs.declared.entry.Entry.{Entry}
use Rattle.kn_trace.specs.Rows.{taken_by}
use Rattle.kn_trace.specs.Trace.{Trace}
use Rattle.kn_trace.specs.Load.{end_of, load_in, overlap, span_of, spans}
use Rattle.kn_past.proofs.Sums.{of_option, sum-filter_map}

-- what a request that came in at this time adds to the load, where requests end so
abbrev pub adds_of : ℕ → ℕ → (ℕ → Option ℕ) → Option ℕ → ℕ
adds_of n from ends o = of_option (overlap (1000 * n) (1000 * (n + 1))) (option_map (λ r. record { from = from; until = ends r }) o)

-- what an entry adds
abbrev pub adds : ℕ → (ℕ → Option ℕ) → Entry → ℕ
adds n ends e = adds_of n e.time ends (taken_by e.row)

pub load-sum : (n : ℕ) (c : Trace) → load_in c n ≡ sum_by (adds n (end_of c)) c
unfolding load_in spans
load-sum n c = sum-filter_map (overlap (1000 * n) (1000 * (n + 1))) (span_of c) c

pub load-push : (n : ℕ) (c : Trace) (e : Entry) → load_in (c ++ e ∷ []) n ≡ sum_by (adds n (end_of (c ++ e ∷ []))) c + adds n (end_of (c ++ e ∷ [])) e
load-push n c e = load-sum n (c ++ e ∷ []) ∙ sum_by_push (adds n (end_of (c ++ e ∷ []))) c e
