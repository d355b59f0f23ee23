use Rattle.std.proofs.Common.{◌∙◌, ap, refl}
use Rattle.kn_core.specs.State.{PartsState}
use Rattle.kn_core.proofs.Telling.{arrival_told, finish_told, own_adds, own_heard, own_order, stays_told}
use Rattle.kn_core.proofs.parts.Parts.take_usual.Goals as goal

-- ---- an arrival

pub own-requires : goal.own-requires
own-requires c =
    let acts = c.part_laws.ensures.rows.act-facts in
    let told = arrival_told acts c.args.e.now.act c.args.e.now.time c.in-Arrive.tag c.arrive-own.result c.args.self.now c.arrive-own.new.self c.in-Arrive.is c.arrive-own.ensures.adds c.arrive-own.ensures.row in
    rw (← c.self.view_is) at (own_heard _ _ _ _ _ _ _ told c.requires.some c.requires.order c.append_laws.ensures.views)

pub returns-in-Arrive-clause-adds : goal.returns-in-Arrive-clause-adds
returns-in-Arrive-clause-adds c =
    let acts = c.part_laws.ensures.rows.act-facts in
    let told = arrival_told acts c.args.e.now.act c.args.e.now.time c.in-Arrive.tag c.arrive-own.result c.args.self.now c.arrive-own.new.self c.in-Arrive.is c.arrive-own.ensures.adds c.arrive-own.ensures.row in
    own_adds _ _ _ _ _ _ _ told c.requires.some c.requires.order _ (ap (λ (y : PartsState). y.throttle) c.self.view_is) c.row_laws.ensures.made c.row_laws.ensures.stands c.append_laws.ensures.append (ap (λ (y : PartsState). y.pods) c.self.view_is) (rw (← c.self.view_is) c.own.ensures.stands)

pub returns-in-Arrive-clause-order : goal.returns-in-Arrive-clause-order
returns-in-Arrive-clause-order c =
    let acts = c.part_laws.ensures.rows.act-facts in
    let told = arrival_told acts c.args.e.now.act c.args.e.now.time c.in-Arrive.tag c.arrive-own.result c.args.self.now c.arrive-own.new.self c.in-Arrive.is c.arrive-own.ensures.adds c.arrive-own.ensures.row in
    own_order _ _ _ _ _ _ _ told c.requires.some c.requires.order _ (ap (λ (y : PartsState). y.throttle) c.self.view_is) acts c.time_laws.ensures.step (rw (← c.self.view_is) c.own.ensures.measured)

-- ---- one that ran

pub row-requires : goal.row-requires
row-requires c =
    let me = c.self-in-Finish in
    let ran = c.in-Some.ensures in
    let told = finish_told c.args.e.now.act c.args.e.now.time c.in-Finish.r c.in-Finish.ok c.args.self.now me.inside.throttle c.finish_at.new.self me.inside.pods me.inside.scaler me.view_is c.in-Finish.is c.in-Some.place c.stood-stand.result.0 c.stood-stand.result.1
    (ran.after c.args.e.now.time c.in-Finish.ok) (λ s d. ran.row s d c.in-Finish.ok) ran.stand ran.proxied c.stood-stand.ensures.stand c.stood-stand.ensures.proxied in
    own_heard _ _ _ _ _ _ _ told c.requires.some c.requires.order c.append_laws.ensures.views

pub returns-in-Some-clause-adds : goal.returns-in-Some-clause-adds
returns-in-Some-clause-adds c =
    let me = c.self-in-Finish in
    let ran = c.in-Some.ensures in
    let told = finish_told c.args.e.now.act c.args.e.now.time c.in-Finish.r c.in-Finish.ok c.args.self.now me.inside.throttle c.finish_at.new.self me.inside.pods me.inside.scaler me.view_is c.in-Finish.is c.in-Some.place c.stood-stand.result.0 c.stood-stand.result.1
    (ran.after c.args.e.now.time c.in-Finish.ok) (λ s d. ran.row s d c.in-Finish.ok) ran.stand ran.proxied c.stood-stand.ensures.stand c.stood-stand.ensures.proxied in
    own_adds _ _ _ _ _ _ _ told c.requires.some c.requires.order _ refl c.row_laws.ensures.made c.row_laws.ensures.stands c.append_laws.ensures.append refl c.row.ensures.stands

pub returns-in-Some-clause-order : goal.returns-in-Some-clause-order
returns-in-Some-clause-order c =
    let me = c.self-in-Finish in
    let ran = c.in-Some.ensures in
    let told = finish_told c.args.e.now.act c.args.e.now.time c.in-Finish.r c.in-Finish.ok c.args.self.now me.inside.throttle c.finish_at.new.self me.inside.pods me.inside.scaler me.view_is c.in-Finish.is c.in-Some.place c.stood-stand.result.0 c.stood-stand.result.1
    (ran.after c.args.e.now.time c.in-Finish.ok) (λ s d. ran.row s d c.in-Finish.ok) ran.stand ran.proxied c.stood-stand.ensures.stand c.stood-stand.ensures.proxied in
    own_order _ _ _ _ _ _ _ told c.requires.some c.requires.order _ refl c.part_laws.ensures.rows.act-facts c.time_laws.ensures.step c.row.ensures.measured

pub returns-in-Some-clause-spec : goal.returns-in-Some-clause-spec
returns-in-Some-clause-spec c =
    let after = c.in-Some.ensures.after c.args.e.now.time c.in-Finish.ok in
    ap (λ y. y.spec) after ∙ ap (λ (y : PartsState). y.throttle.spec) c.self-in-Finish.view_is

-- ---- one that didn't run

pub row-requires-in-None : goal.row-requires-in-None
row-requires-in-None c =
    let me = c.self-in-Finish in
    let stays = c.in-None.ensures in
    let told = stays_told c.args.e.now.act c.args.e.now.time c.in-Finish.r c.in-Finish.ok c.args.self.now me.inside.throttle c.finish_at.new.self me.inside.pods me.inside.scaler me.view_is c.in-Finish.is
    (stays.after c.args.e.now.time c.in-Finish.ok) (λ s d. stays.row s d c.in-Finish.ok) in
    own_heard _ _ _ _ _ _ _ told c.requires.some c.requires.order c.append_laws.ensures.views

pub returns-in-None-clause-adds : goal.returns-in-None-clause-adds
returns-in-None-clause-adds c =
    let me = c.self-in-Finish in
    let stays = c.in-None.ensures in
    let told = stays_told c.args.e.now.act c.args.e.now.time c.in-Finish.r c.in-Finish.ok c.args.self.now me.inside.throttle c.finish_at.new.self me.inside.pods me.inside.scaler me.view_is c.in-Finish.is
    (stays.after c.args.e.now.time c.in-Finish.ok) (λ s d. stays.row s d c.in-Finish.ok) in
    own_adds _ _ _ _ _ _ _ told c.requires.some c.requires.order _ refl c.row_laws.ensures.made c.row_laws.ensures.stands c.append_laws.ensures.append refl c.row-in-None.ensures.stands

pub returns-in-None-clause-order : goal.returns-in-None-clause-order
returns-in-None-clause-order c =
    let me = c.self-in-Finish in
    let stays = c.in-None.ensures in
    let told = stays_told c.args.e.now.act c.args.e.now.time c.in-Finish.r c.in-Finish.ok c.args.self.now me.inside.throttle c.finish_at.new.self me.inside.pods me.inside.scaler me.view_is c.in-Finish.is
    (stays.after c.args.e.now.time c.in-Finish.ok) (λ s d. stays.row s d c.in-Finish.ok) in
    own_order _ _ _ _ _ _ _ told c.requires.some c.requires.order _ refl c.part_laws.ensures.rows.act-facts c.time_laws.ensures.step c.row-in-None.ensures.measured

pub returns-in-None-clause-spec : goal.returns-in-None-clause-spec
returns-in-None-clause-spec c =
    let after = c.in-None.ensures.after c.args.e.now.time c.in-Finish.ok in
    ap (λ y. y.spec) after ∙ ap (λ (y : PartsState). y.throttle.spec) c.self-in-Finish.view_is
