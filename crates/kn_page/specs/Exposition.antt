-- The text of metrics, in version 0.0.4 of Prometheus' format.
use Rattle.std.specs.Prelude.{ℕ, ◌+◌, ◌*◌, ◌/◌, ◌%◌, List, [], ◌∷◌, ◌++◌, codes, Option, None, Some}
use Rattle.std.specs.Fmt.{decimal}
use Rattle.std.specs.List.{flat_map}
use Rattle.kn_event.specs.declared.entry.Decision.{Decision}
use Rattle.kn_event.specs.declared.units.Frac.{Frac}
use Rattle.kn_figures.specs.declared.figures.Figures.{Figures}
use Rattle.kn_figures.specs.declared.kind.Kind.{Kind}
use Rattle.kn_figures.specs.Kinds as kinds
use Rattle.kn_figures.specs.Tallies.{count_in}
use Rattle.kn_page.specs.declared.metric.Metric.{Metric}
use Rattle.kn_page.specs.declared.metric.Metric.TheVariants as metric
use Rattle.kn_page.specs.declared.metrics.Outer.{Outer}
use Rattle.kn_page.specs.Metric.{metric_help, metric_name, metric_type}

-- ---- lines

-- what stands last in a line
unfoldable pub last_text : List ℕ → List ℕ
last_text text = 32 ∷ text ++ 10 ∷ []

unfoldable pub comment_line : List ℕ → List ℕ → List ℕ → List ℕ
comment_line word name text = word ++ name ++ last_text text

-- the two lines with which a family begins
unfoldable pub family_lines : Metric → List ℕ
family_lines m = comment_line (codes "# HELP ") (metric_name m) (metric_help m) ++ comment_line (codes "# TYPE ") (metric_name m) (metric_type m)

-- a label and its value
unfoldable pub label_text : List ℕ → List ℕ → List ℕ
label_text key value = 123 ∷ key ++ codes "=\"" ++ value ++ codes "\"}"

-- a sample, without a label or with one
unfoldable pub sample_line : Metric → ℕ → List ℕ
sample_line m n = metric_name m ++ last_text (decimal n)

unfoldable pub labelled_line : Metric → List ℕ → List ℕ → ℕ → List ℕ
labelled_line m key value n = metric_name m ++ label_text key value ++ last_text (decimal n)

-- ---- decimals

-- the thousandths of a fraction, rounded down
abbrev pub thousandths_of : Frac → ℕ
thousandths_of f = f.num * 1000 / f.den

-- the three digits behind the point
abbrev pub three_digits : ℕ → List ℕ
three_digits n = (48 + n / 100) ∷ (48 + n / 10 % 10) ∷ (48 + n % 10) ∷ []

-- so many thousandths, with three digits behind the point
unfoldable pub thousandths_text : ℕ → List ℕ
thousandths_text n = decimal (n / 1000) ++ 46 ∷ three_digits (n % 1000)

unfoldable pub average_lines : Metric → Frac → List ℕ
average_lines m f = family_lines m ++ (metric_name m ++ last_text (thousandths_text (thousandths_of f)))

-- ---- all of them

-- a family of one sample
unfoldable pub single_lines : Metric → ℕ → List ℕ
single_lines m n = family_lines m ++ sample_line m n

-- a family whose sample is there in some cases only
abbrev pub optional_lines : Metric → Option ℕ → List ℕ
optional_lines m None = []
optional_lines m (Some n) = single_lines m n

abbrev pub kind_line : Figures → Kind → List ℕ
kind_line f k = labelled_line metric.Rows (codes "kind") (kinds.name_of k) (count_in f.tally k)

-- the rows, a sample for each kind
unfoldable pub row_lines : Figures → List ℕ
row_lines f = family_lines metric.Rows ++ flat_map (kind_line f) kinds.all_kinds

abbrev pub state_line : Metric → List ℕ → ℕ → List ℕ
state_line m state n = labelled_line m (codes "state") state n

unfoldable pub journal_lines : Figures → List ℕ
journal_lines f = single_lines metric.Recorded f.recorded ++ single_lines metric.Unprinted f.unprinted

unfoldable pub live_pod_lines : Figures → List ℕ
live_pod_lines f =
    family_lines metric.Pods ++ state_line metric.Pods (codes "ready") f.ready
    ++ state_line metric.Pods (codes "starting") f.starting ++ state_line metric.Pods (codes "draining") f.draining

unfoldable pub pod_lines : Figures → List ℕ
pod_lines f = live_pod_lines f ++ optional_lines metric.Wanted f.wanted

unfoldable pub request_lines : Figures → List ℕ
request_lines f =
    family_lines metric.Requests ++ state_line metric.Requests (codes "held") f.held
    ++ state_line metric.Requests (codes "queued") f.queued ++ state_line metric.Requests (codes "running") f.running

unfoldable pub outer_lines : Outer → List ℕ
outer_lines o = single_lines metric.Waiting o.waiting ++ single_lines metric.AtWork o.at_work

-- the last decision, where there was one
unfoldable pub decision_lines : Option Decision → List ℕ
decision_lines None = []
decision_lines (Some d) = average_lines metric.Stable d.stable ++ average_lines metric.Panic d.panic ++ single_lines metric.Want d.want

-- what follows the pods
unfoldable pub last_lines : Figures → Option Decision → Outer → List ℕ
last_lines f d o = request_lines f ++ outer_lines o ++ decision_lines d

-- the figures of the revision, of which this was the last decision, and what is shown beside them
unfoldable pub metrics_text : Figures → Option Decision → Outer → List ℕ
metrics_text f d o = row_lines f ++ journal_lines f ++ pod_lines f ++ last_lines f d o
