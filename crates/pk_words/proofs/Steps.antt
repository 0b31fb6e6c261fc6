-- What each kind of step keeps and tells.
use Rattle.std.proofs.Common.{◌≡◌, ◌≢◌, ℕ, zero, suc, ◌+◌, ◌-◌, ◌*◌, ◌/◌, ◌%◌, ◌^◌, ◌<◌, ◌==◌, List, [], ◌∷◌, length, drop, get_or, map, set, Bool, true, false, refl, sym, ap, subst, ◌∙◌, arith, inl, inr, ◌⊎◌, slice_get, Some}
use Rattle.std.specs.Bool.{MatchBool}
use prog.Atomic.{either}
use mathlib.Core.Option.{some}
use lib.ListN.{get_elem?}
use Rattle.atomic_table.specs.Table.{State as TableState, Me, Act, keeps, takes, carried_after, homes_after, Valid, Allows}
use Rattle.pk_plan.specs.Order.{Level}
use Rattle.pk_plan.specs.Plans.{end_of, successors_of}
use Rattle.pk_plan.specs.Shape.{has, shape_of, exits}
use Rattle.pk_iterate.specs.Behaviour.{Behaviour}
use Rattle.pk_iterate.specs.Runs.{values_read}
use Rattle.pk_iterate.specs.Ending.{Ends, trace}
use Rattle.pk_core.specs.declared.events.Status.TheVariants.{Done}
use Rattle.pk_core.specs.States.{State, run_number, cell_in, inputs_of}
use Rattle.pk_core.specs.Events.{start, played}
use Rattle.pk_core.specs.Orders.{IsOrderOf}
use Rattle.pk_core.proofs.Basics.{same}
use Rattle.pk_core.proofs.Plays.{Agrees, every_play}
use Rattle.pk_layout.specs.Layouts.{slots_of, owner_of, reader_of, IsInputSlot}
use Rattle.pk_layout.specs.Wirings.{Wiring}
use Rattle.pk_words.specs.declared.view.View.{View}
use Rattle.pk_words.specs.Tokens.{times}
use Rattle.pk_words.specs.Views.{HasHold, HasSending, AllRight, slots_in, note_view, offer_view, claim_view, take_view, read_view, idle, arrive_view, done_view, end_view, IsGiven}
use Rattle.pk_words.specs.Board.{IsBoard}
use Rattle.pk_words.specs.Reads.{HasEnd, IsReadAt, Counts}
use Rattle.pk_words.specs.Told.{IsIdle, IsLater, Noted, Offered, Claimed, Taken, InputTaken, GivenBack, Sent, Finished, Ended}
use Rattle.pk_words.proofs.Lists.{seen_next}
use Rattle.pk_words.proofs.Wired.{axioms_of, fits_of, last_in, last_outside}
use Rattle.pk_words.proofs.Stays.{armings}
use Rattle.pk_words.proofs.Facts.{narrow, held, at_home, pending_is, zero_or}
use Rattle.pk_words.proofs.Numbers.{low_part, high_part, run_shown, open_word, done_word}
use Rattle.pk_words.proofs.Statuses.{offered, found_later, claimed, loaded, ended}
use Rattle.pk_words.proofs.Slots.{gives_all, valid_gives, carried_gives, taken, given}
use Rattle.pk_words.proofs.Sends.{sent_is, target_found}
use Rattle.pk_words.proofs.Runs.{finished}

pub agrees_at : {C S : Type 0} (b : Behaviour C) (w : Wiring) (value : S → C → Type 0) (s : TableState S View) (board : IsBoard b w value s) (order : Level) (ends : Ends b order) → IsOrderOf (shape_of w.plan) order → Agrees b (shape_of w.plan) (trace ends) (played b (shape_of w.plan) (start (shape_of w.plan)) board.events)
agrees_at b w value s board order ends ordered = (every_play b (shape_of w.plan) order ends.made (axioms_of board.wired) (fits_of board.wired) ordered (last_in board.wired) ends.whole board.events board.enabled).0

-- a load of an element's word
pub loads : {C S : Type 0} (b : Behaviour C) (w : Wiring) (value : S → C → Type 0) (slots id e : ℕ) (me : Me S View) → e < w.plan.elements → IsIdle me → Allows (IsBoard b w value) slots id me (e + 2) (λ n. n) (Noted e me)
loads {C} {S} b w value slots id e me below no_slot s board long at fits = (
  note_view e (get_or s.words (e + 2) 0) me.0,
  keeps,
  tt,
  loaded b w value s id e me.0 board at below no_slot.1,
  (ap (λ (xs : List (ℕ × S)). (note_view e (get_or s.words (e + 2) 0) me.0, xs)) no_slot.0, found_later b w value s id e me.0 board at below),
)

pub offers : {C S : Type 0} (b : Behaviour C) (w : Wiring) (value : S → C → Type 0) (slots id e run : ℕ) (me : Me S View) → e < w.plan.elements → IsIdle me → HasHold me.0 e run → Allows (IsBoard b w value) slots id me (e + 2) (λ _. run * 1048576 + 262144) (λ _. Offered e me (run * 1048576 + 262144))
offers {C} {S} b w value slots id e run me below no_slot hold s board long at fits = (
  offer_view e me.0,
  keeps,
  tt,
  subst (λ (r : ℕ). IsBoard b w value (record { words = set s.words (e + 2) (r * 1048576 + 262144); homes = s.homes; views = set s.views id (offer_view e me.0) })) hold.1 (offered b w value s id e me.0 board at below hold.0 no_slot.1),
  ap (λ (xs : List (ℕ × S)). (offer_view e me.0, xs)) no_slot.0,
)

-- an element that isn't done runs again
pub counts_at : {C S : Type 0} (b : Behaviour C) (w : Wiring) (value : S → C → Type 0) (s : TableState S View) (board : IsBoard b w value s) (e run : ℕ) → e < w.plan.elements → (played b (shape_of w.plan) (start (shape_of w.plan)) board.events e).status ≢ Done → run ≡ run_number (played b (shape_of w.plan) (start (shape_of w.plan)) board.events e) → Counts b w e run
counts_at b w value s board e run below ne is = (omega (arith, board.shows.bounded e, is), λ order ends ordered. omega (arith, (agrees_at b w value s board order ends ordered).fewer e below ne, is))

pub claims : {C S : Type 0} (b : Behaviour C) (w : Wiring) (value : S → C → Type 0) (slots id e asked : ℕ) (me : Me S View) → e < w.plan.elements → IsIdle me → asked % 1048576 ≡ 262144 → Allows (IsBoard b w value) slots id me (e + 2) (λ n. either (n == asked) (asked - 262144) n) (Claimed b w e asked me)
claims {C} {S} b w value slots id e asked me below no_slot open_low s board long at fits = by_found (get_or s.words (e + 2) 0 == asked) refl
  where
    found : ℕ
    found = get_or s.words (e + 2) 0

    core : State C
    core = played b (shape_of w.plan) (start (shape_of w.plan)) board.events

    pair : View → Act S → Me S View
    pair v a = (v, carried_after me.1 a)

    Goal : Bool → Type 0
    Goal t = (v : View) × (a : Act S) × Valid s.homes me.1 a × IsBoard b w value (record { words = set s.words (e + 2) (either t (asked - 262144) found); homes = homes_after s.homes me.1 a; views = set s.views id v })
        × (MatchBool t ((pair v a ≡ (claim_view e asked me.0, [])) × Counts b w e (asked / 1048576)) (pair v a ≡ (note_view e found me.0, [])) × IsLater e me found)

    by_found : (t : Bool) → (found == asked) ≡ t → Goal (found == asked)
    by_found true q =
        let fa = same found asked q in
        let open_now = open_word (armings w s e) (core e) found (narrow b w value s board e) (sym (board.shows.words_are e below)) (ap (λ (m : ℕ). m % 1048576) fa ∙ open_low) in
        let run_is = run_shown (armings w s e) (core e) found (narrow b w value s board e) (sym (board.shows.words_are e below)) in
        let new : found / 1048576 * 1048576 ≡ asked - 262144 = omega (arith, fa, open_low) in
        let done = claimed b w value s id e me.0 board at below open_now run_is no_slot.1 in
        let there = subst (λ (m : ℕ). IsBoard b w value (record { words = set s.words (e + 2) m; homes = s.homes; views = set s.views id (claim_view e found me.0) })) new done in
        subst Goal (sym q) (
          claim_view e asked me.0,
          keeps,
          tt,
          subst (λ (m : ℕ). IsBoard b w value (record { words = set s.words (e + 2) (asked - 262144); homes = s.homes; views = set s.views id (claim_view e m me.0) })) fa there,
          (
            (ap (λ (xs : List (ℕ × S)). (claim_view e asked me.0, xs)) no_slot.0, counts_at b w value s board e (asked / 1048576) below (λ d. absurd (let o = open_now in cc)) (ap (λ (m : ℕ). m / 1048576) (sym fa) ∙ run_is)),
            found_later b w value s id e me.0 board at below,
          ),
        )
    by_found false q = subst Goal (sym q) (
      note_view e found me.0,
      keeps,
      tt,
      loaded b w value s id e me.0 board at below no_slot.1,
      (ap (λ (xs : List (ℕ × S)). (note_view e found me.0, xs)) no_slot.0, found_later b w value s id e me.0 board at below),
    )

-- a slot of a Hold's element is taken
pub takes_slot : {C S : Type 0} (b : Behaviour C) (w : Wiring) (value : S → C → Type 0) (slots id e k : ℕ) (me : Me S View) (right : S → Type 0) → slots ≡ slots_of w.layout → e < w.plan.elements → 0 < times e me.0.holds → k < slots_of w.layout → (owner_of w.layout k ≡ e) ⊎ (reader_of w.layout k ≡ e) → has k me.0.out ≡ false
    → ((s : TableState S View) (board : IsBoard b w value s) → get_elem? s.views id ≡ some me.0 → (x : S) → value x (cell_in b (played b (shape_of w.plan) (start (shape_of w.plan)) board.events) (owner_of w.layout k)) → right x)
    → Allows (IsBoard b w value) slots id me (e + 2) (λ n. n) (Taken right k me)
takes_slot {C} {S} b w value slots id e k me right count below mine in_slots of_e not_out tells s board long at fits =
    let h = at_home b w value s board id e k me.0 at below mine in_slots (long ∙ count) of_e not_out in (
      take_view k me.0,
      takes k h.0,
      h.1,
      taken b w value s id e k me.0 (take_view k me.0) refl board at below mine of_e refl refl refl refl refl refl (board.shows.noted id me.0 at),
      (h.0, refl, tells s board at h.0 h.2),
    )

get_map : {A B : Type 0} (f : A → B) (xs : List A) (i : ℕ) (x : A) → slice_get xs i ≡ Some x → slice_get (map f xs) i ≡ Some (f x)
get_map f [] i x h = absurd (cc)
get_map f (y ∷ xs) zero x h = ap Some (ap f (cc))
get_map f (y ∷ xs) (suc i) x h = get_map f xs i x h

-- A Hold reads what the recursion reads.
pub reads_at : {C S : Type 0} (b : Behaviour C) (w : Wiring) (value : S → C → Type 0) (s : TableState S View) (board : IsBoard b w value s) (id e run : ℕ) (v : View) → get_elem? s.views id ≡ some v → e < w.plan.elements → HasHold v e run → (order : Level) (ends : Ends b order) → IsOrderOf (shape_of w.plan) order → inputs_of b (played b (shape_of w.plan) (start (shape_of w.plan)) board.events) e ≡ values_read b (trace ends) e (run + 1)
reads_at {C} b w value s board id e run v at below hold order ends ordered =
    let r : run_number (played b (shape_of w.plan) (start (shape_of w.plan)) board.events e) ≡ run = sym (board.shows.runs_are id v at e below hold.0) ∙ hold.1 in
    (agrees_at b w value s board order ends ordered).reads e below (held board.shows id e v at below hold.0) ∙ ap (λ (k : ℕ). values_read b (trace ends) e (k + 1)) r

pub read_at : {C S : Type 0} (b : Behaviour C) (w : Wiring) (value : S → C → Type 0) (s : TableState S View) (board : IsBoard b w value s) (id e run place u : ℕ) (v : View) → get_elem? s.views id ≡ some v → e < w.plan.elements → HasHold v e run → slice_get (b.reads e) place ≡ Some u → IsReadAt b w.plan e (run + 1) place (cell_in b (played b (shape_of w.plan) (start (shape_of w.plan)) board.events) u)
read_at {C} b w value s board id e run place u v at below hold is order ends ordered =
    ap (λ (xs : List C). slice_get xs place) (sym (reads_at b w value s board id e run v at below hold order ends ordered)) ∙ get_map (cell_in b (played b (shape_of w.plan) (start (shape_of w.plan)) board.events)) (b.reads e) place u is

-- the slot of what a run reads at a place is taken
pub takes_input : {C S : Type 0} (b : Behaviour C) (w : Wiring) (value : S → C → Type 0) (slots id e run place k : ℕ) (me : Me S View) → slots ≡ slots_of w.layout → e < w.plan.elements → HasHold me.0 e run → IsInputSlot b w.layout e place k → has k me.0.out ≡ false
    → Allows (IsBoard b w value) slots id me (e + 2) (λ n. n) (InputTaken b w value e run place (owner_of w.layout k) k me)
takes_input {C} {S} b w value slots id e run place k me count below hold input not_out s board long at fits =
    let core : State C = played b (shape_of w.plan) (start (shape_of w.plan)) board.events in
    let u : ℕ = owner_of w.layout k in
    let seen : ℕ = run_number (core u) in
    let low_u = board.wired.laid_out.owned k input.0 in
    let h = at_home b w value s board id e k me.0 at below hold.0 input.0 (long ∙ count) (inr input.2) not_out in (
      read_view k u seen me.0,
      takes k h.0,
      h.1,
      taken b w value s id e k me.0 (read_view k u seen me.0) refl board at below hold.0 (inr input.2) refl refl refl refl refl refl
          (λ j low_j. seen_next (λ (i : ℕ). run_number (core i)) u (seen * 1048576) me.0.notes j (omega arith) (board.shows.noted id me.0 at j low_j)),
      (
        h.0,
        seen,
        refl,
        board.shows.noted id me.0 at u low_u,
        (
          cell_in b core u,
          h.2,
          (λ order ends ordered. sym ((agrees_at b w value s board order ends ordered).cells u)),
          read_at b w value s board id e run place u me.0 at below hold input.1,
        ),
      ),
    )

some_same : {A : Type 0} (x y : A) → Some x ≡ Some y → x ≡ y
some_same x y h = cc

-- the one slot that is out goes back
pub gives_slot : {C S : Type 0} (b : Behaviour C) (w : Wiring) (value : S → C → Type 0) (slots id e run place k : ℕ) (x : S) (me : Me S View) → slots ≡ slots_of w.layout → e < w.plan.elements → HasHold me.0 e run → me.1 ≡ (k, x) ∷ [] → me.0.out ≡ k ∷ [] → slice_get (b.reads e) place ≡ Some (owner_of w.layout k) → HasEnd b w.plan → (c : C) → value x c → IsReadAt b w.plan e (run + 1) place c
    → Allows (IsBoard b w value) slots id me (e + 2) (λ n. n) (GivenBack me)
gives_slot {C} {S} b w value slots id e run place k x me count below hold slot_is out_is here ends c has_it right s board long at fits =
    let core : State C = played b (shape_of w.plan) (start (shape_of w.plan)) board.events in
    let now = read_at b w value s board id e run place (owner_of w.layout k) me.0 at below hold here ends.0 ends.1 ends.2 in
    let was = right ends.0 ends.1 ends.2 in
    let value_is : value x (cell_in b core (owner_of w.layout k)) = subst (value x) (some_same c (cell_in b core (owner_of w.layout k)) (sym was ∙ now)) has_it in (
      idle me.0,
      gives_all 1,
      valid_gives s.homes me.1 1,
      subst (λ (xs : List (ℕ × S)). IsBoard b w value (record { words = set s.words (e + 2) (get_or s.words (e + 2) 0); homes = homes_after s.homes xs (gives_all 1); views = set s.views id (idle me.0) })) (sym slot_is)
          (given b w value s id e me.0 ((k, x) ∷ []) board at below (long ∙ count) out_is (value_is, tt)),
      ap (λ (xs : List (ℕ × S)). (idle me.0, carried_after xs (gives_all 1))) slot_is,
    )

-- the run's cell goes home
pub finishes : {C S : Type 0} (b : Behaviour C) (w : Wiring) (value : S → C → Type 0) (slots id e run : ℕ) (c : C) (me : Me S View) → slots ≡ slots_of w.layout → e < w.plan.elements → HasHold me.0 e run → run < w.limit → me.0.out ≡ slots_in me.1
    → AllRight (λ k x. (value x c) × (owner_of w.layout k ≡ e)) me.1
    → ((k : ℕ) → k < slots_of w.layout → owner_of w.layout k ≡ e → has k (slots_in me.1) ≡ true)
    → (order : Level) (ends : Ends b order) → IsOrderOf (shape_of w.plan) order → IsGiven b (exits w.plan e) false e (values_read b (trace ends) e (run + 1)) c
    → Allows (IsBoard b w value) slots id me (e + 2) (λ _. (run + 1) * 1048576 + 262145) (λ _. Finished w.plan e me ((run + 1) * 1048576 + 262145))
finishes {C} {S} b w value slots id e run c me count below hold room out all every order ends ordered given s board long at fits = (
  done_view e ((run + 1) * 1048576 + 262145) (successors_of w.plan e) me.0,
  gives_all (length me.1),
  valid_gives s.homes me.1 (length me.1),
  finished b w value s id e ((run + 1) * 1048576 + 262145) me.0 me.1 c board at below hold.0 (omega (arith, room, hold.1))
      (ap (λ (r : ℕ). (r + 1) * 1048576 + 262145) (sym hold.1))
      (long ∙ count) out all every
      (subst (λ (xs : List C). IsGiven b (exits w.plan e) false e xs c) (sym (reads_at b w value s board id e run me.0 at below hold order ends ordered)) given),
  ap (λ (xs : List (ℕ × S)). (done_view e ((run + 1) * 1048576 + 262145) (successors_of w.plan e) me.0, xs)) (carried_gives me.1),
)

-- a send
pub sends_to : {C S : Type 0} (b : Behaviour C) (w : Wiring) (value : S → C → Type 0) (slots id a i tgt : ℕ) (me : Me S View) → a < w.plan.elements → IsIdle me → HasSending me.0 a i → i < length (successors_of w.plan a) → tgt ≡ get_or (successors_of w.plan a) i 0
    → Allows (IsBoard b w value) slots id me (tgt + 2) (λ n. (n + (2 ^ 64 - 1)) % 2 ^ 64) (Sent b w a i me)
sends_to {C} {S} b w value slots id a i tgt me low_a no_slot sending in_range tgt_is = subst (λ (t : ℕ). Allows (IsBoard b w value) slots id me (t + 2) (λ n. (n + (2 ^ 64 - 1)) % 2 ^ 64) (Sent b w a i me)) (sym tgt_is) (λ s board long at fits.
    let t : ℕ = get_or (successors_of w.plan a) i 0 in
    let found : ℕ = get_or s.words (t + 2) 0 in
    let new : ℕ = (found + (2 ^ 64 - 1)) % 2 ^ 64 in
    let f = target_found b w value s id a i me.0 board at low_a sending.0 (sym sending.1) in_range in
    let small : suc f.0 < 1048576 = omega (arith, f.3) in
    let less : (new + 1 ≡ found) ⊎ (found ≡ 0) = inl (omega (arith, f.2, fits)) in
    let part_is : found % 1048576 ≡ suc f.0 = ap (λ (m : ℕ). m % 1048576) f.2 ∙ low_part (run_number (played b (shape_of w.plan) (start (shape_of w.plan)) board.events t)) (suc f.0) small in
    let run_is : found / 1048576 ≡ run_number (played b (shape_of w.plan) (start (shape_of w.plan)) board.events t) = ap (λ (m : ℕ). m / 1048576) f.2 ∙ high_part (run_number (played b (shape_of w.plan) (start (shape_of w.plan)) board.events t)) (suc f.0) small in (
      arrive_view a i (drop (i + 1) (successors_of w.plan a)) t found me.0,
      keeps,
      tt,
      sent_is b w value s id a i new me.0 board at low_a sending.0 (sym sending.1) in_range no_slot.1 less,
      (
        ap (λ (xs : List (ℕ × S)). (arrive_view a i (drop (i + 1) (successors_of w.plan a)) t found me.0, xs)) no_slot.0,
        omega (arith, part_is),
        omega (arith, part_is, f.3),
        counts_at b w value s board t (found / 1048576) f.4 (λ d. absurd (let o = f.1 in cc)) run_is,
        found_later b w value s id t me.0 board at f.4,
      ),
    ))

-- the last element is seen done, or not
pub ends_at : {C S : Type 0} (b : Behaviour C) (w : Wiring) (value : S → C → Type 0) (slots id : ℕ) (me : Me S View) → IsIdle me → Allows (IsBoard b w value) slots id me (end_of w.plan + 2) (λ n. n) (Ended (end_of w.plan) me)
ends_at {C} {S} b w value slots id me no_slot s board long at fits = by_found (found % 1048576 == 262145) refl
  where
    found : ℕ
    found = get_or s.words (end_of w.plan + 2) 0

    below : end_of w.plan < w.plan.elements
    below = last_in board.wired

    pair : View → Act S → Me S View
    pair v a = (v, carried_after me.1 a)

    Goal : Bool → Type 0
    Goal t = (v : View) × (a : Act S) × Valid s.homes me.1 a × IsBoard b w value (record { words = set s.words (end_of w.plan + 2) found; homes = homes_after s.homes me.1 a; views = set s.views id v })
        × (MatchBool t (pair v a ≡ (end_view (end_of w.plan) found me.0, [])) (pair v a ≡ (note_view (end_of w.plan) found me.0, [])) × IsLater (end_of w.plan) me found)

    none : armings w s (end_of w.plan) ≡ 0
    none = elim (zero_or (armings w s (end_of w.plan))) [
      | inl z ↦ z
      | inr some_e ↦ absurd (let p = pending_is board.wired board.shows (end_of w.plan) some_e in last_outside board.wired p.exit p.member)
    ]

    by_found : (t : Bool) → (found % 1048576 == 262145) ≡ t → Goal (found % 1048576 == 262145)
    by_found true q =
        let done = done_word (armings w s (end_of w.plan)) (played b (shape_of w.plan) (start (shape_of w.plan)) board.events (end_of w.plan)) found (narrow b w value s board (end_of w.plan)) (sym (board.shows.words_are (end_of w.plan) below)) none (same (found % 1048576) 262145 q) in
        subst Goal (sym q) (
          end_view (end_of w.plan) found me.0,
          keeps,
          tt,
          ended b w value s id me.0 board at done no_slot.1,
          (ap (λ (xs : List (ℕ × S)). (end_view (end_of w.plan) found me.0, xs)) no_slot.0, found_later b w value s id (end_of w.plan) me.0 board at below),
        )
    by_found false q = subst Goal (sym q) (
      note_view (end_of w.plan) found me.0,
      keeps,
      tt,
      loaded b w value s id (end_of w.plan) me.0 board at below no_slot.1,
      (ap (λ (xs : List (ℕ × S)). (note_view (end_of w.plan) found me.0, xs)) no_slot.0, found_later b w value s id (end_of w.plan) me.0 board at below),
    )
