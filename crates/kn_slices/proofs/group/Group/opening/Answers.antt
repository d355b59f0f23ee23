use Rattle.std.proofs.Common.{◌≡◌, ◌<◌, ◌++◌, [], ◌∷◌, ◌∙◌, ap, sym, arith, length, get_or, map, ℕ}
use Rattle.std.specs.List.{range_with_len}
use Rattle.std.proofs.lemmas.Grind.{common_steps}
use Rattle.std.proofs.lemmas.List.FromFn.{length-map-range_with_len, map-range_with_len_more}
use Rattle.kn_event.specs.declared.entry.Row.TheVariants as row
use Rattle.kn_trace.specs.Trace.{Trace, entry}
use Rattle.kn_slices.specs.Slices.{slice_of}
use Rattle.kn_slices.proofs.Opening.{opening_is}
use Rattle.kn_slices.proofs.group.Group.opening.Goals as goal

pub put-requires : goal.put-requires
put-requires c =
    let h = ap length c.loop-p.invariant ∙ length-map-range_with_len (λ p. entry c.args.self.now.start (row.Create p c.slice-limit.result)) 0 c.loop-p.p in
    let low : c.loop-p.p < length c.self.inside.wanted.items = grind (arith, common_steps) in
    omega (arith, h, low, c.self.invariant.group.group.pods)

pub loop-p-preserved : goal.loop-p-preserved
loop-p-preserved c =
    let made = λ (p : ℕ). entry c.self.inside.start (row.Create p c.slice-limit.result) in
    rw (← c.self.view_is) (c.put.ensures ∙ (ap (λ (l : Trace). l ++ made c.loop-p.p ∷ []) (rw (← c.self.view_is) at c.loop-p.invariant)
    ∙ sym (map-range_with_len_more made 0 c.loop-p.p c.loop-p.p (omega arith))))

pub returns : goal.returns
returns c = rw (← c.self.view_is) (λ d.
    let parts = c.self.inside.parts.items in
    let wanted = c.self.inside.wanted.items in
    let start = c.self.inside.start in
    let low = rw (← c.self.view_is) at c.requires.part in
    let x = get_or parts c.args.i d in
    let count : c.len.result ≡ length parts = grind (arith, common_steps) in
    let end : c.loop-p.p ≡ length wanted = grind (arith, common_steps) in
    let limit : c.slice-limit.result ≡ x.spec.cc = c.slice-limit.ensures ∙ (ap (slice_of c.self.inside.limit c.args.i) count ∙ sym (c.self.invariant.opened.slices c.args.i d low)) in
    (rw (← c.self.view_is) at c.loop-p.invariant)
    ∙ (ap (λ n. map (λ p. entry start (row.Create p n)) (range_with_len 0 c.loop-p.p)) limit
    ∙ (ap (λ k. map (λ p. entry start (row.Create p x.spec.cc)) (range_with_len 0 k)) end ∙ sym (opening_is x.spec start (length wanted) (c.self.invariant.group.activators c.args.i d low).fixed))))
