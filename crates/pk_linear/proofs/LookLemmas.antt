-- What looking at an item changes.
use Rattle.std.proofs.Common.{◌≡◌, ◌≢◌, ◌⊎◌, inl, inr, ◌<◌, ℕ, Bool, true, false, List, [], ◌∷◌, ◌++◌, length, get_or, set, arith, refl, sym, ap, subst, ◌∙◌, Contains}
use Rattle.std.specs.Vec.{with_item}
use Rattle.std.specs.declared.vec.Vec.{Vec}
use Rattle.std.specs.declared.alloc.Global.{Global}
use Rattle.std.specs.BTreeSet.{BTreeSet, insert_key}
use Rattle.std.specs.Ordering.{nat_cmp, match_ordering}
use Rattle.std.specs.declared.cmp.Ordering.{Ordering}
use Rattle.std.specs.declared.cmp.Ordering.TheVariants.{Less, Equal, Greater}
use Rattle.std.proofs.lemmas.Bool.{cases_eq}
use Rattle.std.proofs.lemmas.Bool.Decides.{nat_tests}
use Rattle.std.proofs.lemmas.List.{length-set, length-map, map-set, get_or-set_same, get_or-set_other}
use Rattle.std.proofs.lemmas.List.Elements.{Contains-push, Contains-push_cases, Contains-append_left}
use Rattle.pk_plan.specs.Plans.{PlanView}
use Rattle.pk_plan.specs.Digraphs.{lists_of}
use Rattle.pk_linear.specs.declared.waits.Reading.{Reading}
use Rattle.pk_linear.specs.declared.progress.Progress.{Progress}
use Rattle.pk_linear.specs.Waits.{WaitsFor, WaitsNoMore, IsReadTo}
use Rattle.pk_linear.specs.Progress.{IsLookedAt}
use Rattle.pk_linear.proofs.ListLemmas.{contains_none, contains_here, contains_there, contains_cases}

-- a written list among lists
written_list : (lists : List (Vec ℕ Global)) (a : ℕ) (list : Vec ℕ Global) → lists_of (set lists a list) ≡ set (lists_of lists) a list.items
written_list lists a list = map-set (λ (v : Vec ℕ Global). v.items) lists a list

pub list_there : (lists : List (Vec ℕ Global)) (a : ℕ) (list : Vec ℕ Global) → a < length lists → get_or (lists_of (set lists a list)) a [] ≡ list.items
list_there lists a list within =
    ap (λ (ls : List (List ℕ)). get_or ls a []) (written_list lists a list)
    ∙ get_or-set_same (lists_of lists) a list.items [] (let long = length-map lists (λ (v : Vec ℕ Global). v.items) in omega (arith, long, within))

pub list_elsewhere : (lists : List (Vec ℕ Global)) (a b : ℕ) (list : Vec ℕ Global) → b ≢ a → get_or (lists_of (set lists a list)) b [] ≡ get_or (lists_of lists) b []
list_elsewhere lists a b list other =
    ap (λ (ls : List (List ℕ)). get_or ls b []) (written_list lists a list) ∙ get_or-set_other (lists_of lists) a b list.items [] other

-- a written reading
read_kept : (p : PlanView) (placed : List Bool) (readings : List Reading) (item e : ℕ) (reading : Reading) → item < length readings → IsReadTo p placed item reading
    → IsReadTo p placed e (get_or readings e (record { place = 0; read = 0 })) → IsReadTo p placed e (get_or (set readings item reading) e (record { place = 0; read = 0 }))
read_kept p placed readings item e reading within now before =
    let none : Reading = record { place = 0; read = 0 } in
    elim (cases_eq e item) [
      | inl same ↦ subst (λ (x : ℕ). IsReadTo p placed x (get_or (set readings item reading) x none)) (sym same)
          (subst (IsReadTo p placed item) (sym (get_or-set_same readings item reading none within)) now)
      | inr other ↦ subst (IsReadTo p placed e) (sym (get_or-set_other readings item e reading none other)) before
    ]

pub looked_waiting : (p : PlanView) (s : Progress) (item a : ℕ) (reading : Reading) (list : Vec ℕ Global)
    → length s.readings.items ≡ p.elements → length s.waiting.items ≡ p.elements → item < p.elements → a < p.elements
    → IsReadTo p s.placed.items item reading → WaitsFor p s.lasts.items item a → get_or s.placed.items a false ≡ false
    → list.items ≡ get_or (lists_of s.waiting.items) a [] ++ item ∷ []
    → IsLookedAt p s (record { lasts = s.lasts; placed = s.placed; readings = with_item s.readings item reading; waiting = with_item s.waiting a list; ready = s.ready; opened = s.opened; places = s.places }) item
looked_waiting p s item a reading list readings waiting item_in a_in read waits unplaced pushed = record {
  same = refl;
  readings = length-set s.readings.items item reading;
  waiting = length-set s.waiting.items a list;
  read = λ e before. read_kept p s.placed.items s.readings.items item e reading (omega (arith, readings, item_in)) read before;
  ready_from = λ e has. inl has;
  ready_kept = λ e has. has;
  waits_from = λ b e has. elim (cases_eq b a) [
    | inl same ↦
        let there : Contains (get_or (lists_of s.waiting.items) a [] ++ item ∷ []) e =
        subst (λ (xs : List ℕ). Contains xs e) (list_there s.waiting.items a list long ∙ pushed) (subst (λ (x : ℕ). Contains (get_or (lists_of (set s.waiting.items a list)) x []) e) same has) in
        elim (Contains-push_cases (get_or (lists_of s.waiting.items) a []) item e there) [
          | inl old ↦ inl (subst (λ (x : ℕ). Contains (get_or (lists_of s.waiting.items) x []) e) (sym same) old)
          | inr new ↦ inr (sym new, subst (WaitsFor p s.lasts.items item) (sym same) waits)
        ]
    | inr other ↦ inl (subst (λ (xs : List ℕ). Contains xs e) (list_elsewhere s.waiting.items a b list other) has)
  ];
  waits_kept = λ b e has. elim (cases_eq b a) [
    | inl same ↦
        subst (λ (x : ℕ). Contains (get_or (lists_of (set s.waiting.items a list)) x []) e) (sym same)
        (subst (λ (xs : List ℕ). Contains xs e) (sym (list_there s.waiting.items a list long ∙ pushed))
        (Contains-append_left (get_or (lists_of s.waiting.items) a []) (item ∷ []) e (subst (λ (x : ℕ). Contains (get_or (lists_of s.waiting.items) x []) e) same has)))
    | inr other ↦ subst (λ (xs : List ℕ). Contains xs e) (sym (list_elsewhere s.waiting.items a b list other)) has
  ];
  seen = inr (
    a,
    subst (λ (xs : List ℕ). Contains xs item) (sym (list_there s.waiting.items a list long ∙ pushed)) (Contains-push (get_or (lists_of s.waiting.items) a []) item),
    (λ placed. absurd (let both : true ≡ false = sym placed ∙ unplaced in cc)),
  );
}
  where
    long : a < length s.waiting.items
    long = omega (arith, waiting, a_in)

-- a number put into a set
insert_from : (keys : List ℕ) (k e : ℕ) → Contains (insert_key nat_cmp keys k) e → Contains keys e ⊎ (e ≡ k)
insert_from [] k e has = elim (contains_cases k e [] has) [ inl same ↦ inr (sym same) | inr none ↦ inl none ]
insert_from (x ∷ keys) k e has = go (λ h. insert_from keys k e h) (nat_cmp k x) has
  where
    go : (Contains (insert_key nat_cmp keys k) e → Contains keys e ⊎ (e ≡ k)) → (o : Ordering)
        → Contains (match_ordering o (k ∷ x ∷ keys) (x ∷ keys) (x ∷ insert_key nat_cmp keys k)) e → Contains (x ∷ keys) e ⊎ (e ≡ k)
    go others Less has = elim (contains_cases k e (x ∷ keys) has) [ inl same ↦ inr (sym same) | inr old ↦ inl old ]
    go others Equal has = inl has
    go others Greater has = elim (contains_cases x e (insert_key nat_cmp keys k) has) [
      | inl same ↦ inl (subst (Contains (x ∷ keys)) same (contains_here x keys))
      | inr later ↦ elim (others later) [
        | inl old ↦ inl (contains_there x keys old)
        | inr new ↦ inr new
      ]
    ]

insert_kept : (keys : List ℕ) (k e : ℕ) → Contains keys e → Contains (insert_key nat_cmp keys k) e
insert_kept [] k e has = absurd (contains_none has)
insert_kept (x ∷ keys) k e has = go (λ h. insert_kept keys k e h) (nat_cmp k x)
  where
    go : (Contains keys e → Contains (insert_key nat_cmp keys k) e) → (o : Ordering) → Contains (match_ordering o (k ∷ x ∷ keys) (x ∷ keys) (x ∷ insert_key nat_cmp keys k)) e
    go others Less = contains_there k (x ∷ keys) has
    go others Equal = has
    go others Greater = elim (contains_cases x e keys has) [
      | inl same ↦ subst (Contains (x ∷ insert_key nat_cmp keys k)) same (contains_here x (insert_key nat_cmp keys k))
      | inr later ↦ contains_there x (insert_key nat_cmp keys k) (others later)
    ]

equal_numbers : (k x : ℕ) → nat_cmp k x ≡ Equal → x ≡ k
equal_numbers k x is = grind (arith, nat_tests)

insert_there : (keys : List ℕ) (k : ℕ) → Contains (insert_key nat_cmp keys k) k
insert_there [] k = contains_here k []
insert_there (x ∷ keys) k = go (insert_there keys k) (nat_cmp k x) refl
  where
    go : Contains (insert_key nat_cmp keys k) k → (o : Ordering) → nat_cmp k x ≡ o → Contains (match_ordering o (k ∷ x ∷ keys) (x ∷ keys) (x ∷ insert_key nat_cmp keys k)) k
    go later Less is = contains_here k (x ∷ keys)
    go later Equal is = subst (Contains (x ∷ keys)) (equal_numbers k x is) (contains_here x keys)
    go later Greater is = contains_there x (insert_key nat_cmp keys k) later

pub looked_ready : (p : PlanView) (s : Progress) (item : ℕ) (reading : Reading) (ready : BTreeSet ℕ)
    → length s.readings.items ≡ p.elements → item < p.elements
    → IsReadTo p s.placed.items item reading → WaitsNoMore p s.lasts.items s.placed.items item
    → ready.keys ≡ insert_key nat_cmp s.ready.keys item
    → IsLookedAt p s (record { lasts = s.lasts; placed = s.placed; readings = with_item s.readings item reading; waiting = s.waiting; ready = ready; opened = s.opened; places = s.places }) item
looked_ready p s item reading ready readings item_in read free keys = record {
  same = refl;
  readings = length-set s.readings.items item reading;
  waiting = refl;
  read = λ e before. read_kept p s.placed.items s.readings.items item e reading (omega (arith, readings, item_in)) read before;
  ready_from = λ e has. elim (insert_from s.ready.keys item e (subst (λ (ks : List ℕ). Contains ks e) keys has)) [
    | inl old ↦ inl old
    | inr new ↦ inr (new, free)
  ];
  ready_kept = λ e has. subst (λ (ks : List ℕ). Contains ks e) (sym keys) (insert_kept s.ready.keys item e has);
  waits_from = λ b e has. inl has;
  waits_kept = λ b e has. has;
  seen = inl (subst (λ (ks : List ℕ). Contains ks item) (sym keys) (insert_there s.ready.keys item));
}
