use Rattle.std.proofs.Common.{◌≡◌, ◌+◌, ℕ, [], ◌∷◌, ◌++◌, List, Vec, Global, true, length, get_or, drop, arith, refl, sym, ap, subst, ◌∙◌, Contains}
use Rattle.std.specs.Vec.{with_item}
use Rattle.std.proofs.lemmas.List.{get_or-map, drop_all, length_push}
use Rattle.std.proofs.lemmas.List.Elements.{Contains-get_or}
use Rattle.pk_plan.specs.declared.places.Place.{Place}
use Rattle.pk_plan.specs.Digraphs.{lists_of}
use Rattle.pk_linear.specs.declared.progress.Progress.{Progress}
use Rattle.pk_linear.proofs.ListLemmas.{contains_none}
use Rattle.pk_linear.proofs.TurnLemmas.{IsNow, now_candidate}
use Rattle.pk_linear.proofs.KnownLemmas.{exit_closes, heads_within, turn_keeps, IsKnownPlaced, IsAwaited, known_placed, known_looked, known_less, awaited_next}
use Rattle.pk_linear.proofs.progress.Progress.place.Goals as goal

pub turn-requires : goal.turn-requires
turn-requires c =
    let p = c.args.plan.now in
    let s = c.args.self.now in
    let e = c.args.element in
    let now : IsNow p s e = record { known = c.requires.known; least = c.requires.least } in
    let it = now_candidate p s e now in
    let lasts = c.requires.known.lasts.length in
    record {
      element = it.within;
      lasts = lasts;
      exit = λ from before. exit_closes p s e c.axioms.ensures.axioms now from before;
      heads = heads_within p s e now;
    }

pub index_mut-requires : goal.index_mut-requires
index_mut-requires c =
    let now : IsNow c.args.plan.now c.args.self.now c.args.element = record { known = c.requires.known; least = c.requires.least } in
    let it = now_candidate c.args.plan.now c.args.self.now c.args.element now in
    let keeps = turn_keeps c.args.plan.now c.args.self.now c.turn.new.self c.args.element c.in_ok-role.role c.in_ok-role.ensures in
    let long : length c.turn.new.self.placed.items ≡ c.args.plan.now.elements = ap (λ (x : Progress). length x.placed.items) keeps ∙ c.requires.known.marks in
    let below = it.within in
    omega (arith, long, below)

pub index_mut-requires-2 : goal.index_mut-requires-2
index_mut-requires-2 c =
    let now : IsNow c.args.plan.now c.args.self.now c.args.element = record { known = c.requires.known; least = c.requires.least } in
    let it = now_candidate c.args.plan.now c.args.self.now c.args.element now in
    let keeps = turn_keeps c.args.plan.now c.args.self.now c.turn.new.self c.args.element c.in_ok-role.role c.in_ok-role.ensures in
    let long : length c.turn.new.self.waiting.items ≡ c.args.plan.now.elements = ap (λ (x : Progress). length x.waiting.items) keeps ∙ c.requires.known.waiting in
    let below = it.within in
    omega (arith, long, below)

pub loop-item-init : goal.loop-item-init
loop-item-init c =
    let p = c.args.plan.now in
    let s = c.args.self.now in
    let s' = c.turn.new.self in
    let e = c.args.element in
    let now : IsNow p s e = record { known = c.requires.known; least = c.requires.least } in
    let it = now_candidate p s e now in
    let keeps = turn_keeps p s s' e c.in_ok-role.role c.in_ok-role.ensures in
    let long : length s'.waiting.items ≡ p.elements = ap (λ (x : Progress). length x.waiting.items) keeps ∙ c.requires.known.waiting in
    let below = it.within in
    let old : Vec ℕ Global = c.index_mut-2.result.now in
    let waited : c.deref-item-items.result.now ≡ get_or (lists_of s'.waiting.items) e [] =
    c.deref-item-items.ensures.value
    ∙ ap (λ (v : Vec ℕ Global). v.items) (c.replace-items.ensures.value ∙ c.index_mut-2.ensures.value)
    ∙ sym (get_or-map (λ (v : Vec ℕ Global). v.items) s'.waiting.items e old [] (omega (arith, long, below))) in
    let nothing : c.replace-items.new.dest.items ≡ [] = ap (λ (v : Vec ℕ Global). v.items) c.replace-items.ensures.after ∙ c.new.ensures.items in
    let done = known_placed p s s' e c.in_ok-role.role c.push.new.self c.replace-items.new.dest c.axioms.ensures.axioms now c.in_ok-role.ensures c.in_ok-push.ensures.items nothing in
    let there = subst (λ (xs : List ℕ). IsKnownPlaced p s (record {
      lasts = s'.lasts;
      placed = with_item s'.placed e true;
      readings = s'.readings;
      waiting = with_item s'.waiting e c.replace-items.new.dest;
      ready = s'.ready;
      opened = s'.opened;
      places = c.push.new.self;
    }) xs) (sym waited) done in
    (there.known, there.awaited, refl)

pub look_at-requires : goal.look_at-requires
look_at-requires c =
    let known = c.loop-item.invariant.0 in
    let item : ℕ = get_or c.deref-item-items.result.now c.loop-item.item-index 0 in
    let awaited = c.loop-item.invariant.1 item (Contains-get_or c.deref-item-items.result.now c.loop-item.item-index 0 c.loop-item-test.true) in
    record {
      lasts = known.lasts;
      marks = known.marks;
      readings = known.readings;
      waiting = known.waiting;
      item = awaited.within;
      read = known.read item awaited.within;
    }

pub loop-item-preserved : goal.loop-item-preserved
loop-item-preserved c =
    let p = c.args.plan.now in
    let s = c.loop-item.self in
    let s' = c.look_at.new.self in
    let items : List ℕ = c.deref-item-items.result.now in
    let i = c.loop-item.item-index in
    let item : ℕ = get_or items i 0 in
    let awaited = c.loop-item.invariant.1 item (Contains-get_or items i 0 c.loop-item-test.true) in
    let same : s'.places.items ≡ s.places.items = ap (λ (x : Progress). x.places.items) c.in_ok-look_at.ensures.same in (
      known_looked p s s' item (Contains (drop i items)) (Contains (drop (i + 1) items)) c.loop-item.invariant.0 awaited c.in_ok-look_at.ensures (awaited_next items i 0 c.loop-item-test.true),
      (λ f has. subst (λ (ps : List Place). IsAwaited p ps f) (sym same) (c.loop-item.invariant.1 f has)),
      ap (λ (ps : List Place). length ps) same ∙ c.loop-item.invariant.2,
    )

pub returns : goal.returns
returns c =
    let p = c.args.plan.now in
    let s = c.loop-item.self in
    let items : List ℕ = c.deref-item-items.result.now in
    let s' = c.turn.new.self in
    let keeps = turn_keeps p c.args.self.now s' c.args.element c.in_ok-role.role c.in_ok-role.ensures in
    let nothing : drop c.loop-item.item-index items ≡ [] = drop_all c.loop-item.item-index items c.loop-item-test.false in
    let kept : length s'.places.items ≡ length c.args.self.now.places.items = ap (λ (x : Progress). length x.places.items) keeps in
    let pushed : length c.push.new.self.items ≡ length (s'.places.items ++ record { element = c.args.element; role = c.in_ok-role.role } ∷ []) = ap (λ (ps : List Place). length ps) c.in_ok-push.ensures.items in
    let long = length_push s'.places.items (record { element = c.args.element; role = c.in_ok-role.role }) in
    record {
      known = known_less p s s.ready.keys (Contains (drop c.loop-item.item-index items)) (λ e. ⊥) (λ e within has. contains_none (subst (λ (xs : List ℕ). Contains xs e) nothing has)) c.loop-item.invariant.0;
      places = omega (arith, c.loop-item.invariant.2, pushed, long, kept);
    }
