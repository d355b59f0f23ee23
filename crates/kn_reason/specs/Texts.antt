-- The words of each line of a decision, as they stand behind its time.
use Rattle.std.specs.Prelude.{ℕ, ◌++◌, List, [], ◌∷◌, Option, None, Some, codes}
use Rattle.std.specs.List.{flat_map}
use Rattle.std.specs.Fmt.{decimal, signed_decimal}
use Rattle.kn_event.specs.declared.units.Frac.{Frac}
use Rattle.kn_event.specs.declared.entry.Mode.{Mode}
use Rattle.kn_event.specs.declared.entry.Mode.TheVariants as mode
use Rattle.kn_event.specs.EntryLine.{frac_text, labelled}
use Rattle.kn_milli.specs.Milli.{milli_text}
use Rattle.kn_reason.specs.declared.reason.Lever.{Lever}
use Rattle.kn_reason.specs.declared.reason.Lever.TheVariants as lever
use Rattle.kn_reason.specs.declared.reason.Reason.{Reason}
use Rattle.kn_reason.specs.declared.reason.Reason.TheVariants as reason
use Rattle.kn_reason.specs.declared.reason.Seats.{Seats}
use Rattle.kn_reason.specs.Numbers.{pods_text}

-- ---- words

abbrev pub way_word : Mode → List ℕ
way_word mode.Proxy = codes "through the activator"
way_word mode.Serve = codes "straight to the pods"

abbrev pub lever_word : Lever → List ℕ
lever_word lever.Load = codes "the load or the target"
lever_word lever.UpRate = codes "max-scale-up-rate"
lever_word lever.DownRate = codes "max-scale-down-rate"
lever_word lever.Activation = codes "activation-scale"
lever_word lever.Panic = codes "panic-threshold-percentage"
lever_word lever.Delay = codes "scale-down-delay"
lever_word lever.Initial = codes "initial-scale"
lever_word lever.Min = codes "min-scale"
lever_word lever.Max = codes "max-scale"
lever_word lever.Nothing = codes "none, 500 is the most"
lever_word lever.ToZero = codes "enable-scale-to-zero"
lever_word lever.Ready = codes "a pod becomes ready"
lever_word lever.StableWindow = codes "stable-window"
lever_word lever.Grace = codes "scale-to-zero-grace-period"
lever_word lever.Retention = codes "scale-to-zero-pod-retention-period"

-- ---- parts

-- a setting, and the pods that it comes to
unfoldable pub setting_text : List ℕ → ℕ → List ℕ → ℕ → List ℕ
setting_text words n more pods = labelled words (decimal n) ++ labelled more (pods_text pods)

-- a rate in thousandths, and the pods that it comes to
unfoldable pub rate_text : List ℕ → ℕ → List ℕ → ℕ → List ℕ
rate_text words rate more pods = labelled words (milli_text rate) ++ labelled more (pods_text pods)

unfoldable pub wants_text : ℕ → ℕ → List ℕ
wants_text want ready = labelled (codes " decision: ") (pods_text want) ++ labelled (codes " wanted, ") (pods_text ready) ++ codes " ready"

unfoldable pub stable_text : ℕ → Frac → ℕ → ℕ → List ℕ
stable_text window average target pods =
    labelled (codes "   stable window ") (decimal window) ++ labelled (codes " s: ") (frac_text average) ++ labelled (codes " requests, target ") (milli_text target) ++ labelled (codes ": ") (pods_text pods)

unfoldable pub panic_text : ℕ → Frac → ℕ → List ℕ
panic_text window average pods =
    labelled (codes "   panic window ") (decimal window) ++ labelled (codes " s: ") (frac_text average) ++ labelled (codes " requests: ") (pods_text pods)

unfoldable pub over_text : ℕ → ℕ → ℕ → List ℕ
over_text pods ready threshold =
    labelled (codes "   panic: ") (pods_text pods) ++ labelled (codes " asked for, ") (decimal ready) ++ labelled (codes " ready: at least ") (milli_text threshold) ++ codes " per cent"

unfoldable pub active_text : ℕ → ℕ → ℕ → List ℕ
active_text passed window pods =
    labelled (codes "   active for ") (decimal passed) ++ labelled (codes " of ") (decimal window) ++ labelled (codes " ms: ") (pods_text pods)

unfoldable pub goes_text : ℕ → ℕ → List ℕ
goes_text passed window =
    labelled (codes "   active for ") (decimal passed) ++ labelled (codes " ms, ") (decimal window) ++ codes " at least: goes inactive, and the pods stay for now"

unfoldable pub not_yet_text : ℕ → ℕ → ℕ → List ℕ
not_yet_text passed grace retention =
    labelled (codes "   inactive for ") (decimal passed) ++ labelled (codes " ms, not yet long enough (grace ") (decimal grace) ++ labelled (codes ", retention ") (decimal retention) ++ codes "): the pods stay"

-- the seats that there are
unfoldable pub total_text : Seats → List ℕ
total_text x = labelled (codes "   burst capacity: ") (decimal x.ready) ++ labelled (codes " ready of ") (milli_text x.total.0)

-- those that are to be free or are taken
unfoldable pub less_text : Seats → List ℕ
less_text x = labelled (codes ", less ") (milli_text x.capacity.0) ++ labelled (codes ", less ") (frac_text x.average)

-- those that are left, and the way to the pods
unfoldable pub left_text : Seats → List ℕ
left_text x = labelled (codes ": ") (signed_decimal x.excess) ++ labelled (codes " left: ") (way_word x.mode)

unfoldable pub burst_text : Seats → List ℕ
burst_text x = total_text x ++ less_text x ++ left_text x

-- ---- a line

unfoldable pub reason_text : Reason → List ℕ
reason_text (reason.Wants want ready) = wants_text want ready
reason_text (reason.Stable window average target pods) = stable_text window average target pods
reason_text (reason.UpRate rate pods) = rate_text (codes "   max-scale-up-rate ") rate.0 (codes ": at most ") pods
reason_text (reason.DownRate rate pods) = rate_text (codes "   max-scale-down-rate ") rate.0 (codes ": at least ") pods
reason_text (reason.Activation n) = setting_text (codes "   activation-scale ") n (codes ": ") n
reason_text (reason.Panic window average pods) = panic_text window average pods
reason_text (reason.Over pods ready threshold) = over_text pods ready threshold.0
reason_text (reason.GoesOn pods) = labelled (codes "   panic goes on: not below ") (pods_text pods)
reason_text (reason.Most pods) = labelled (codes "   panic: the most asked for since it began: ") (pods_text pods)
reason_text (reason.Delay seconds pods) = setting_text (codes "   scale-down-delay ") seconds (codes " s: still ") pods
reason_text (reason.Initial scale pods) = setting_text (codes "   initial-scale ") scale (codes ", never reached yet: ") pods
reason_text (reason.Min scale pods) = setting_text (codes "   min-scale ") scale (codes ": ") pods
reason_text (reason.Max scale pods) = setting_text (codes "   max-scale ") scale (codes ": ") pods
reason_text (reason.Ceiling pods) = labelled (codes "   no more than ") (pods_text pods)
reason_text (reason.NoZero pods) = labelled (codes "   scale to zero is off: ") (pods_text pods)
reason_text (reason.Waits pods) = labelled (codes "   activating: stays at ") (pods_text pods)
reason_text (reason.Active passed window pods) = active_text passed window pods
reason_text (reason.GoesInactive passed window) = goes_text passed window
reason_text (reason.Inactive passed pods) = setting_text (codes "   inactive for ") passed (codes " ms: ") pods
reason_text (reason.NotYet passed grace retention) = not_yet_text passed grace retention
reason_text (reason.Burst x) = burst_text x
reason_text (reason.BurstUnlimited way) = labelled (codes "   burst capacity unlimited: ") (way_word way)
reason_text (reason.BurstOff way) = labelled (codes "   no burst capacity asked for: ") (way_word way)
reason_text (reason.Change what) = labelled (codes "   to change this: ") (lever_word what)

-- at this time, with LF
unfoldable pub line_text : ℕ → Reason → List ℕ
line_text t x = decimal t ++ reason_text x ++ 10 ∷ []

-- a sentence where it stands
abbrev pub sentence_text : ℕ → Option Reason → List ℕ
sentence_text t None = []
sentence_text t (Some x) = line_text t x

unfoldable pub sentences_text : ℕ → List (Option Reason) → List ℕ
sentences_text t xs = flat_map (sentence_text t) xs
