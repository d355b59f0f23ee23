-- What seats keep, after one pod is changed and after one is removed.
use Rattle.std.proofs.Common.{◌≡◌, ℕ, ◌+◌, ◌<◌, ◌≤◌, List, set, get_or, length, ap, ◌∙◌, arith}
use Rattle.std.specs.List.{remove}
use Rattle.std.proofs.lemmas.List.{get_or_default, length-set}
use Rattle.std.proofs.lemmas.List.Edits.{length-remove}
use Rattle.std.proofs.lemmas.List.Quantifiers.{all_pairs_remove}
use Rattle.std.proofs.lemmas.List.Sums.{sum_by-set, sum_by-remove, get_or-le-sum_by, sum_by-le-sum_by}
use Rattle.std.proofs.lemmas.Grind.{common_steps}
use Rattle.kn_seats.specs.Pods.{Pod, requests_at, requests_at_all}
use Rattle.kn_seats.specs.Kept.{IsAscending, IsKept, queued_at_all}

-- one pod gives way to another of the same number
ascending-set : (xs : List Pod) (place : ℕ) (d y : Pod) → IsAscending xs → place < length xs → y.number ≡ (get_or xs place d).number → IsAscending (set xs place y)
ascending-set xs place d y rise inside same i j e lt within =
    let same_at : y.number ≡ (get_or xs place e).number = same ∙ ap (λ (q : Pod). q.number) (get_or_default xs place d e inside) in
    grind (arith, common_steps, rise i j e, rise i place e, rise place j e)

-- one pod gives way to another of the same number, with as many more requests as there is room for, and with the cells of its queue
pub kept-set : (pods : List Pod) (place : ℕ) (here y : Pod) (spare spare_after made made_after pod_room request_room : ℕ) → IsKept pods spare made pod_room request_room
    → place < length pods → here ≡ get_or pods place here → y.number ≡ here.number
    → requests_at y + requests_at_all pods ≤ request_room + requests_at here → made_after ≤ request_room
    → spare_after + length y.queued + made ≡ spare + length here.queued + made_after
    → IsKept (set pods place y) spare_after made_after pod_room request_room
kept-set pods place here y spare spare_after made made_after pod_room request_room kept inside is same fits cells_fit cells =
    let requests = sum_by-set requests_at pods place y here inside in
    let queued = sum_by-set (λ pod. length pod.queued) pods place y here inside in
    let at_here : requests_at here ≡ requests_at (get_or pods place here) = ap requests_at is in
    let queued_here : length here.queued ≡ length (get_or pods place here).queued = ap (λ (q : Pod). length q.queued) is in
    let all = kept.requests_fit in
    let total = kept.cells in
    record {
      ascending = ascending-set pods place here y kept.ascending inside (same ∙ ap (λ (q : Pod). q.number) is);
      pods_fit = let fit = kept.pods_fit in omega (arith, length-set pods place y);
      requests_fit = omega arith;
      cells = omega arith;
      cells_fit = cells_fit;
      most_requests = kept.most_requests;
    }

-- a pod without requests goes
pub kept-remove : (pods : List Pod) (place : ℕ) (d : Pod) (spare made pod_room request_room : ℕ) → IsKept pods spare made pod_room request_room
    → place < length pods → requests_at (get_or pods place d) ≡ 0 → IsKept (remove pods place) spare made pod_room request_room
kept-remove pods place d spare made pod_room request_room kept inside none =
    let requests = sum_by-remove requests_at pods place d inside in
    let queued = sum_by-remove (λ pod. length pod.queued) pods place d inside in
    let all = kept.requests_fit in
    let total = kept.cells in
    record {
      ascending = all_pairs_remove (λ a b. a.number < b.number) pods place inside kept.ascending;
      pods_fit = let fit = kept.pods_fit in omega (arith, length-remove pods place inside);
      requests_fit = omega arith;
      cells = omega arith;
      cells_fit = kept.cells_fit;
      most_requests = kept.most_requests;
    }

-- no pod has more requests than all of them, and no more are queued than there are
pub at_most_all : (pods : List Pod) (place : ℕ) (d : Pod) → place < length pods → requests_at (get_or pods place d) ≤ requests_at_all pods
at_most_all pods place d inside = get_or-le-sum_by requests_at pods place d inside

pub queued_at_most : (pods : List Pod) → queued_at_all pods ≤ requests_at_all pods
queued_at_most pods = sum_by-le-sum_by (λ pod. length pod.queued) requests_at pods (λ pod. omega arith)
