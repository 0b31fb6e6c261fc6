-- The slots that are made of what elements read are laid out.
use Rattle.std.proofs.Common.{◌≡◌, ℕ, zero, suc, ◌+◌, ◌-◌, ◌<◌, ◌≤◌, List, ◌++◌, replicate, length, take, get_or, refl, sym, ap, subst, ◌∙◌, arith, inl, inr, Some, Contains, All, sum, ◌^◌, length-append}
use Rattle.std.proofs.lemmas.Bool.{cases_lt}
use Rattle.std.proofs.lemmas.List.{length-replicate, get_or-replicate}
use Rattle.std.proofs.lemmas.List.Elements.{All-get_or, Contains-get_or}
use Rattle.std.proofs.lemmas.Option.{slice_get-get_or}
use Rattle.pk_iterate.specs.Behaviour.{Behaviour, ReadsWithin}
use Rattle.pk_layout.specs.Gathered.{gathered, AreStarts, stretch, owners_in, owned_by, times, slot_of_read, AreGiven, written}
use Rattle.pk_layout.specs.Layouts.{IsLaidOut, laid}
use Rattle.pk_layout.proofs.Lists.{gathered_all, length_more, no_longer, stands_at, lies_in}
use Rattle.pk_layout.proofs.Counting.{same_or_not, time_at, times_up, times_all, times_next, long_owned}
use Rattle.std.proofs.lemmas.List.Sums.{sum_by-take-le}
use Rattle.pk_layout.proofs.Giving_more.{HaveSlots, AreWritten, are_written}

-- what the slots are made of
pub record AreParts {C : Type 0} (b : Behaviour C) (n : ℕ) (counts starts begins : List ℕ) : Type 0 where
  pub reads : ReadsWithin b n
  pub counted : (u : ℕ) → u < n → get_or counts u 0 ≡ times u (gathered b.reads n)
  pub first : AreStarts (owned_by counts) n starts
  pub from : AreStarts b.reads n begins

-- each element as often as its list is long
abbrev as_often : (ℕ → List ℕ) → ℕ → List ℕ
as_often lists e = replicate (length (lists e)) e

stretches : (lists : ℕ → List ℕ) (n : ℕ) (from : List ℕ) → AreStarts lists n from → (m : ℕ) → m ≤ n → gathered (stretch from) m ≡ gathered (as_often lists) m
stretches lists n from starts zero h = refl
stretches lists n from starts (suc m) h =
    let count : get_or from (m + 1) 0 - get_or from m 0 ≡ length (lists m) = omega (arith, starts.each m (omega (arith, h)), starts.each (m + 1) (omega (arith, h)), length_more lists m) in
    ap (λ (xs : List ℕ). xs ++ stretch from m) (stretches lists n from starts m (omega (arith, h)))
    ∙ ap (λ (k : ℕ). gathered (as_often lists) m ++ replicate k m) count

owners_are : (lists : ℕ → List ℕ) (n : ℕ) (from : List ℕ) → AreStarts lists n from → owners_in from ≡ gathered (as_often lists) n
owners_are lists n from starts =
    let last : length from - 1 ≡ n = omega (arith, starts.long) in
    ap (gathered (stretch from)) last ∙ stretches lists n from starts n (omega arith)

owned : (counts : List ℕ) (n : ℕ) → gathered (as_often (owned_by counts)) n ≡ gathered (owned_by counts) n
owned counts zero = refl
owned counts (suc n) =
    let count = get_or counts n 0 + 1 in
    ap (λ (xs : List ℕ). xs ++ as_often (owned_by counts) n) (owned counts n)
    ∙ ap (λ (k : ℕ). gathered (owned_by counts) n ++ replicate k n) (length-replicate count n)

owners_of : (counts : List ℕ) (n : ℕ) (first : List ℕ) → AreStarts (owned_by counts) n first → owners_in first ≡ gathered (owned_by counts) n
owners_of counts n first starts = owners_are (owned_by counts) n first starts ∙ owned counts n

as_long : (reads : ℕ → List ℕ) (n : ℕ) → length (gathered (as_often reads) n) ≡ length (gathered reads n)
as_long reads zero = refl
as_long reads (suc n) = omega (arith, as_long reads n, length-append (gathered (as_often reads) n) (as_often reads n), length-append (gathered reads n) (reads n), length-replicate (length (reads n)) n)

-- the j-th read is one by some element, at some place
record IsRead {C : Type 0} (b : Behaviour C) (n j : ℕ) : Type 0 where
  reader : ℕ
  place : ℕ
  below : reader < n
  within : place < length (b.reads reader)
  at : j ≡ length (gathered b.reads reader) + place
  target : get_or (gathered b.reads n) j 0 ≡ get_or (b.reads reader) place 0
  source : get_or (gathered (as_often b.reads) n) j 0 ≡ reader

read_of : {C : Type 0} (b : Behaviour C) (n e place : ℕ) → e < n → place < length (b.reads e) → IsRead b n (length (gathered b.reads e) + place)
read_of b n e place below within = record {
  reader = e;
  place = place;
  below = below;
  within = within;
  at = refl;
  target = stands_at b.reads n e place 0 below within;
  source =
      ap (λ (k : ℕ). get_or (gathered (as_often b.reads) n) (k + place) 0) (sym (as_long b.reads e))
      ∙ stands_at (as_often b.reads) n e place 0 below (omega (arith, within, length-replicate (length (b.reads e)) e))
      ∙ get_or-replicate (length (b.reads e)) place e 0 within;
}

read_at : {C : Type 0} (b : Behaviour C) (n j : ℕ) → j < length (gathered b.reads n) → IsRead b n j
read_at b n j h =
    let it = lies_in b.reads n j h in
    let e = it.0 in
    let place = j - length (gathered b.reads e) in
    let is : length (gathered b.reads e) + place ≡ j = omega (arith, it.2) in
    subst (IsRead b n) is (read_of b n e place it.1 (omega (arith, it.2, it.3, length_more b.reads e)))

target_within : {C : Type 0} (b : Behaviour C) (n j : ℕ) → ReadsWithin b n → j < length (gathered b.reads n) → get_or (gathered b.reads n) j 0 < n
target_within b n j within h = All-get_or (λ u. u < n) (gathered b.reads n) j 0 h (gathered_all (λ u. u < n) b.reads n within)

-- a slot of an element is one of the stretch that begins where its first is
pub owns : (counts : List ℕ) (n e k : ℕ) → e < n → length (gathered (owned_by counts) e) ≤ k → k < length (gathered (owned_by counts) (e + 1)) → get_or (gathered (owned_by counts) n) k 0 ≡ e
owns counts n e k below from upto =
    let i = k - length (gathered (owned_by counts) e) in
    let is : k ≡ length (gathered (owned_by counts) e) + i = omega (arith, from) in
    let count = get_or counts e 0 + 1 in
    let long = length-replicate count e in
    let in_range : i < count = omega (arith, is, upto, length_more (owned_by counts) e, long) in
    ap (λ (j : ℕ). get_or (gathered (owned_by counts) n) j 0) is
    ∙ stands_at (owned_by counts) n e i 0 below (omega (arith, in_range, long))
    ∙ get_or-replicate count i e 0 in_range

-- where the slot of a read stands
record IsOwn (counts : List ℕ) (e k : ℕ) : Type 0 where
  from : length (gathered (owned_by counts) e) < k
  upto : k < length (gathered (owned_by counts) (e + 1))

slot_at : {C : Type 0} {b : Behaviour C} {n : ℕ} {counts first from : List ℕ} → AreParts b n counts first from → (j : ℕ) → j < length (gathered b.reads n)
    → IsOwn counts (get_or (gathered b.reads n) j 0) (slot_of_read first (gathered b.reads n) j)
slot_at {b = b} {n = n} {counts = counts} {first = first} parts j h =
    let u = get_or (gathered b.reads n) j 0 in
    let below : u < n = target_within b n j parts.reads h in
    let start = parts.first.each u (omega (arith, below)) in
    let next = times_next (gathered b.reads n) j h in
    let most = times_all u (gathered b.reads n) (j + 1) (omega (arith, h)) in
    let count = parts.counted u below in
    record {
      from = omega (arith, start, next);
      upto = omega (arith, start, most, count, length_more (owned_by counts) u, length-replicate (get_or counts u 0 + 1) u);
    }

pub have_slots : {C : Type 0} {b : Behaviour C} {n : ℕ} {counts first from : List ℕ} → AreParts b n counts first from → HaveSlots first (gathered b.reads n) (length (gathered (owned_by counts) n))
have_slots {b = b} {n = n} {counts = counts} {first = first} parts = record {
  within = λ j h. (
      let u = get_or (gathered b.reads n) j 0 in
      let below = target_within b n j parts.reads h in
      omega (arith, (slot_at parts j h).upto, no_longer (owned_by counts) (u + 1) n (omega (arith, below))));
  apart = λ i j before h e. (
      let g = gathered b.reads n in
      let u = get_or g i 0 in
      let v = get_or g j 0 in
      let one = slot_at parts i (omega (arith, before, h)) in
      let other = slot_at parts j h in
      elim (same_or_not u v) [
        | inl same ↦ (
            let up = times_up v g (i + 1) j (omega (arith, before)) in
            let next = times_next g j h in
            let is : slot_of_read first g i ≡ get_or first v 0 + times v (take (i + 1) g) = ap (λ (w : ℕ). get_or first w 0 + times w (take (i + 1) g)) same in
            omega (arith, e, is, up, next))
        | inr differ ↦ elim (cases_lt u v) [
          | inl less ↦ omega (arith, e, one.upto, other.from, no_longer (owned_by counts) (u + 1) v (omega (arith, less)))
          | inr more ↦ omega (arith, e, one.from, other.upto, no_longer (owned_by counts) (v + 1) u (omega (arith, more, differ)))
        ]
      ]);
}

pub laid_out : {C : Type 0} {b : Behaviour C} {n : ℕ} {counts first from : List ℕ} (inputs : List ℕ) → AreParts b n counts first from → AreGiven first (gathered b.reads n) (length (gathered b.reads n)) inputs → IsLaidOut b n (laid first inputs from)
unfolding read_of
laid_out {b = b} {n = n} {counts = counts} {first = first} {from = from} inputs parts given = record {
  long = parts.first.long;
  as_many = who.as_many;
  begins = parts.first.each 0 (omega arith);
  rises = λ e h. omega (arith, start e (omega (arith, h)), start (e + 1) (omega (arith, h)), length_more lists e, length-replicate (get_or counts e 0 + 1) e);
  ends = start n (omega arith) ∙ sym (ap length owned_all);
  together = λ e k h above below. (
    omega (arith, below, start (e + 1) (omega (arith, h)), no_longer lists (e + 1) n (omega (arith, h)), ap length owned_all),
    owner_is e k h above below,
  );
  no_more = λ e k h in_range own. (
      let it = stretch k in_range in
      let same : it.0 ≡ e = sym (owner_is it.0 k it.1 it.2 it.3) ∙ own in
      subst (λ (u : ℕ). (get_or first u 0 ≤ k) × (k < get_or first (u + 1) 0)) same (it.2, it.3));
  owned = λ k in_range. (let it = stretch k in_range in omega (arith, owner_is it.0 k it.1 it.2 it.3, it.1));
  read = λ k in_range. elim (who.changed k) [
    | inl was ↦ (let it = stretch k in_range in omega (arith, was, owner_is it.0 k it.1 it.2 it.3, it.1))
    | inr got ↦ (let r = read_at b n got.0 got.1 in omega (arith, got.3, source_is got.0, r.source, r.below))
  ];
  reads = λ k in_range. elim (who.changed k) [
    | inl was ↦ inl was
    | inr got ↦ (
        let r = read_at b n got.0 got.1 in
        let own = owner_of_read got.0 got.1 in
        let owner : get_or owners k 0 ≡ get_or (b.reads r.reader) r.place 0 = ap (λ (m : ℕ). get_or owners m 0) (sym got.2) ∙ own ∙ r.target in
        let reader : get_or readers k 0 ≡ r.reader = got.3 ∙ source_is got.0 ∙ r.source in
        inr (subst (λ (u : ℕ). Contains (b.reads (get_or readers k 0)) u) (sym owner) (subst (λ (u : ℕ). Contains (b.reads u) (get_or (b.reads r.reader) r.place 0)) (sym reader) (Contains-get_or (b.reads r.reader) r.place 0 r.within))))
  ];
  long_inputs = parts.from.long;
  within = λ e h. omega (arith, parts.from.each e (omega (arith, h)), length_more b.reads e, no_longer b.reads (e + 1) n (omega (arith, h)), given.long);
  inputs = λ e place h in_range. (
      let r = read_of b n e place h in_range in
      let j = length (gathered b.reads e) + place in
      let at : get_or from e 0 + place ≡ j = ap (λ (m : ℕ). m + place) (parts.from.each e (omega (arith, h))) in
      let below : j < length (gathered b.reads n) = omega (arith, in_range, length_more b.reads e, no_longer b.reads (e + 1) n (omega (arith, h))) in
      let slot : get_or inputs (get_or from e 0 + place) 0 ≡ slot_of_read first (gathered b.reads n) j = ap (λ (m : ℕ). get_or inputs m 0) at ∙ given.each j below in
      let own : get_or owners (get_or inputs (get_or from e 0 + place) 0) 0 ≡ get_or (b.reads e) place 0 = ap (λ (m : ℕ). get_or owners m 0) slot ∙ owner_of_read j below ∙ r.target in (
        omega (arith, slot, (have_slots parts).within j below, ap length owned_all),
        slice_get-get_or (b.reads e) place 0 in_range ∙ ap Some (sym own),
        ap (λ (m : ℕ). get_or readers m 0) slot ∙ who.here j below ∙ source_is j ∙ r.source,
      ));
  no_other = λ k in_range. elim (who.changed k) [
    | inl was ↦ (
        let it = stretch k in_range in
        let own = owner_is it.0 k it.1 it.2 it.3 in
        elim (same_or_not k (get_or first it.0 0)) [
          | inl same ↦ inl (same ∙ ap (λ (u : ℕ). get_or first u 0) (sym own ∙ sym was), sym was)
          | inr further ↦ (
              let i = k - get_or first it.0 0 - 1 in
              let count = parts.counted it.0 it.1 in
              let wide = length-replicate (get_or counts it.0 0 + 1) it.0 in
              let time = time_at it.0 (gathered b.reads n) i (omega (arith, further, it.2, it.3, start it.0 (omega (arith, it.1)), start (it.0 + 1) (omega (arith, it.1)), length_more lists it.0, wide, count)) in
              let is : slot_of_read first (gathered b.reads n) time.0 ≡ k =
              ap (λ (u : ℕ). get_or first u 0 + times u (take (time.0 + 1) (gathered b.reads n))) time.2 ∙ omega (arith, time.3, further, it.2) in
              inr (read_slot k time.0 time.1 is (ap (λ (m : ℕ). get_or readers m 0) (sym is) ∙ who.here time.0 time.1)))
        ])
    | inr got ↦ inr (read_slot k got.0 got.1 got.2 got.3)
  ];
  apart = λ e i j h before within same. (
      let one = slot_of_place e i h (omega (arith, before, within)) in
      let other = slot_of_place e j h within in
      (have_slots parts).apart (length (gathered b.reads e) + i) (length (gathered b.reads e) + j) (omega (arith, before)) other.0 (sym one.1 ∙ same ∙ other.1));
  further = λ e place u h within low same. (
      let at = slot_of_place e place h within in
      let own = slot_at parts (length (gathered b.reads e) + place) at.0 in
      let v = get_or (gathered b.reads n) (length (gathered b.reads e) + place) 0 in
      elim (cases_lt v u) [
        | inl less ↦ omega (arith, same, at.1, own.upto, start u (omega (arith, low)), no_longer lists (v + 1) u (omega (arith, less)))
        | inr more ↦ omega (arith, same, at.1, own.from, start u (omega (arith, low)), no_longer lists u v (omega (arith, more)))
      ]);
}
  where
    lists : ℕ → List ℕ
    lists = owned_by counts

    owners : List ℕ
    owners = owners_in first

    readers : List ℕ
    readers = written (owners_in first) inputs (owners_in from) (length inputs)

    owned_all : owners_in first ≡ gathered (owned_by counts) n
    owned_all = owners_of counts n first parts.first

    source_is : (j : ℕ) → get_or (owners_in from) j 0 ≡ get_or (gathered (as_often b.reads) n) j 0
    source_is j = ap (λ (xs : List ℕ). get_or xs j 0) (owners_are b.reads n from parts.from)

    who : AreWritten first (gathered b.reads n) (owners_in from) (owners_in first) (length (gathered b.reads n)) (written (owners_in first) inputs (owners_in from) (length inputs))
    who =
        let g = gathered b.reads n in
        let have : HaveSlots first g (length (owners_in first)) = subst (HaveSlots first g) (sym (ap length owned_all)) (have_slots parts) in
        subst (λ (k : ℕ). AreWritten first g (owners_in from) (owners_in first) (length g) (written (owners_in first) inputs (owners_in from) k)) (sym given.long)
        (are_written first g (owners_in from) (owners_in first) inputs have given (length g) (omega arith))

    -- the slot of a read is one of what its reader reads
    read_slot : (k j : ℕ) → j < length (gathered b.reads n) → slot_of_read first (gathered b.reads n) j ≡ k → get_or readers k 0 ≡ get_or (owners_in from) j 0
        → (place : ℕ) × (place < length (b.reads (get_or readers k 0))) × (k ≡ get_or inputs (get_or from (get_or readers k 0) 0 + place) 0)
    read_slot k j below is by =
        let r = read_at b n j below in
        let reader : get_or readers k 0 ≡ r.reader = by ∙ source_is j ∙ r.source in
        let at : get_or from r.reader 0 + r.place ≡ j = omega (arith, r.at, parts.from.each r.reader (omega (arith, r.below))) in
        let slot : k ≡ get_or inputs (get_or from r.reader 0 + r.place) 0 = sym is ∙ sym (given.each j below) ∙ ap (λ (m : ℕ). get_or inputs m 0) (sym at) in
        subst (λ (e : ℕ). (place : ℕ) × (place < length (b.reads e)) × (k ≡ get_or inputs (get_or from e 0 + place) 0)) (sym reader) (r.place, r.within, slot)

    -- the slot of what an element reads at a place is that of a read
    slot_of_place : (e place : ℕ) → e < n → place < length (b.reads e)
        → (length (gathered b.reads e) + place < length (gathered b.reads n)) × (get_or inputs (get_or from e 0 + place) 0 ≡ slot_of_read first (gathered b.reads n) (length (gathered b.reads e) + place))
    slot_of_place e place h within =
        let j = length (gathered b.reads e) + place in
        let below : j < length (gathered b.reads n) = omega (arith, within, length_more b.reads e, no_longer b.reads (e + 1) n (omega (arith, h))) in
        (below, ap (λ (m : ℕ). get_or inputs (m + place) 0) (parts.from.each e (omega (arith, h))) ∙ given.each j below)

    start : (e : ℕ) → e ≤ n → get_or first e 0 ≡ length (gathered (owned_by counts) e)
    start e h = parts.first.each e h

    owner_is : (e k : ℕ) → e < n → get_or first e 0 ≤ k → k < get_or first (e + 1) 0 → get_or owners k 0 ≡ e
    owner_is e k h above below =
        ap (λ (xs : List ℕ). get_or xs k 0) owned_all
        ∙ owns counts n e k h (omega (arith, above, parts.first.each e (omega (arith, h)))) (omega (arith, below, parts.first.each (e + 1) (omega (arith, h))))

    stretch : (k : ℕ) → k < length owners → (e : ℕ) × (e < n) × (get_or first e 0 ≤ k) × (k < get_or first (e + 1) 0)
    stretch k h =
        let it = lies_in (owned_by counts) n k (omega (arith, h, ap length owned_all)) in
        (it.0, it.1, omega (arith, it.2, parts.first.each it.0 (omega (arith, it.1))), omega (arith, it.3, parts.first.each (it.0 + 1) (omega (arith, it.1))))

    owner_of_read : (j : ℕ) → j < length (gathered b.reads n) → get_or owners (slot_of_read first (gathered b.reads n) j) 0 ≡ get_or (gathered b.reads n) j 0
    owner_of_read j h =
        let own = slot_at parts j h in
        ap (λ (xs : List ℕ). get_or xs (slot_of_read first (gathered b.reads n) j) 0) owned_all
        ∙ owns counts n (get_or (gathered b.reads n) j 0) (slot_of_read first (gathered b.reads n) j) (target_within b n j parts.reads h) (omega (arith, own.from)) own.upto

pub parts_of : {C : Type 0} (b : Behaviour C) (n : ℕ) (counts starts begins targets targets' items : List ℕ) → ReadsWithin b n → targets ≡ gathered b.reads n → targets' ≡ targets → counts ≡ items → length items ≡ n
    → ((u : ℕ) → u < n → get_or items u 0 ≡ times u targets') → AreStarts (owned_by counts) (length counts) starts → AreStarts b.reads n begins → AreParts b n counts starts begins
parts_of b n counts starts begins targets targets' items within is same are long each first from = record {
  reads = within;
  counted = λ u h. ap (λ (xs : List ℕ). get_or xs u 0) are ∙ each u h ∙ ap (times u) (same ∙ is);
  first = subst (λ (k : ℕ). AreStarts (owned_by counts) k starts) (ap length are ∙ long) first;
  from = from;
}

pub elements_at : {C : Type 0} {b : Behaviour C} {n : ℕ} {counts first from : List ℕ} (first' targets : List ℕ) → AreParts b n counts first from → first' ≡ first → targets ≡ gathered b.reads n → All (λ u. u < length first') targets
elements_at {b = b} {n = n} {first = first} first' targets parts same is =
    subst (λ (xs : List ℕ). All (λ u. u < length xs) targets) (sym same)
    (subst (All (λ u. u < length first)) (sym is) (λ k d h. omega (arith, gathered_all (λ u. u < n) b.reads n parts.reads k d h, parts.first.long)))

pub fit_at : {C : Type 0} {b : Behaviour C} {n : ℕ} {counts first from : List ℕ} (first' targets : List ℕ) → AreParts b n counts first from → first' ≡ first → targets ≡ gathered b.reads n
    → length counts ≡ n → sum counts + length counts < 2 ^ 64 → (j : ℕ) → j < length targets → slot_of_read first' targets j < 2 ^ 64
fit_at {b = b} {n = n} {counts = counts} {first = first} first' targets parts same is long room =
    subst (λ (xs : List ℕ). (j : ℕ) → j < length targets → slot_of_read xs targets j < 2 ^ 64) (sym same)
    (subst (λ (xs : List ℕ). (j : ℕ) → j < length xs → slot_of_read first xs j < 2 ^ 64) (sym is)
    (λ j h. omega (arith, (have_slots parts).within j h, long_owned counts n (omega (arith, long)), sum_by-take-le (λ x. x) counts n, long, room)))

pub laid_out_at : {C : Type 0} {b : Behaviour C} {n : ℕ} {counts first from : List ℕ} (first' targets inputs : List ℕ) → AreParts b n counts first from → first' ≡ first → targets ≡ gathered b.reads n
    → AreGiven first' targets (length targets) inputs → IsLaidOut b n (laid first inputs from)
laid_out_at {b = b} {n = n} {first = first} first' targets inputs parts same is given =
    laid_out inputs parts
    (subst (λ (xs : List ℕ). AreGiven first xs (length xs) inputs) is (subst (λ (xs : List ℕ). AreGiven xs targets (length targets) inputs) same given))
