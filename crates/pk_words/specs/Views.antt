-- How the views change.
use Rattle.std.specs.Prelude.{◌≡◌, ℕ, ◌+◌, ◌*◌, ◌/◌, ◌%◌, ◌<◌, ◌==◌, ◌||◌, not, List, [], ◌∷◌, map, Bool, true, false}
use Rattle.pk_iterate.specs.Behaviour.{Behaviour, decided_cell, is_again}
pub use Rattle.pk_lift.specs.Further.{AllRight}
use Rattle.pk_words.specs.declared.view.View.{View}
use Rattle.pk_words.specs.Tokens.{times, number_of, drop_one}

-- The pass has the Hold of e with this run number.
abbrev pub HasHold : View → ℕ → ℕ → Type 0
HasHold v e run = (0 < times e v.holds) × (number_of e v.holds ≡ run)

-- The pass has the Sending of e with so many sends made.
abbrev pub HasSending : View → ℕ → ℕ → Type 0
HasSending v e i = (0 < times e v.sends) × (number_of e v.sends ≡ i)

-- The pass has the Resetting of the exit x with so many members to be armed.
abbrev pub HasResetting : View → ℕ → ℕ → Type 0
HasResetting v x left = (0 < times x v.resets) × (number_of x v.resets ≡ left)

-- The one pass that a board begins with, and one more. Then there are two, and neither is fresh.
abbrev pub first_view : View
first_view = record {
  holds = [];
  sends = [];
  resets = [];
  out = [];
  notes = [];
  ended = false;
  stops = [];
  stop_notes = [];
  fresh = true;
}

abbrev pub new_view : View → View
new_view v = record v { holds = []; sends = []; resets = []; out = []; fresh = false }

abbrev pub split_view : View → View
split_view v = record v { fresh = false }

abbrev pub idle : View → View
idle v = record v { out = []; fresh = false }

-- The word of e was found.
abbrev pub note_view : (e word : ℕ) → View → View
note_view e word v = record v { out = []; notes = (e, word) ∷ v.notes; fresh = false }

abbrev pub offer_view : ℕ → View → View
offer_view e v = record v { holds = drop_one e v.holds; out = []; fresh = false }

-- The open word of e was found and taken.
abbrev pub claim_view : (e word : ℕ) → View → View
claim_view e word v = record v {
  holds = (e, word / 1048576) ∷ v.holds;
  out = [];
  notes = (e, word) ∷ v.notes;
  fresh = false;
}

abbrev pub take_view : ℕ → View → View
take_view k v = record v { out = k ∷ v.out; fresh = false }

-- The slot k is taken, whose owner u had this run number.
abbrev pub read_view : (k u run : ℕ) → View → View
read_view k u run v = record v { out = k ∷ v.out; notes = (u, run * 1048576) ∷ v.notes; fresh = false }

-- A Sending after one send more, of which `left` are left.
abbrev pub sent_on : ℕ → ℕ → List ℕ → List (ℕ × ℕ) → List (ℕ × ℕ)
sent_on a i [] xs = drop_one a xs
sent_on a i (t ∷ ts) xs = (a, i + 1) ∷ drop_one a xs

abbrev pub gained : Bool → ℕ → ℕ → List (ℕ × ℕ) → List (ℕ × ℕ)
gained true e run hs = (e, run) ∷ hs
gained false e run hs = hs

-- the view after a send by a to target, whose word was found
abbrev pub arrive_view : (a i : ℕ) → List ℕ → (target found : ℕ) → View → View
arrive_view a i left target found v = record v {
  holds = gained (found % 1048576 == 1) target (found / 1048576) v.holds;
  sends = sent_on a i left v.sends;
  out = [];
  notes = (target, found) ∷ v.notes;
  fresh = false;
}

-- A Sending of all successors, if there are any.
abbrev pub begun : ℕ → List ℕ → List (ℕ × ℕ) → List (ℕ × ℕ)
begun e [] xs = xs
begun e (t ∷ ts) xs = (e, 0) ∷ xs

-- e was run, which left its word
abbrev pub done_view : (e word : ℕ) → List ℕ → View → View
done_view e word ts v = record v {
  holds = drop_one e v.holds;
  sends = begun e ts v.sends;
  out = [];
  notes = (e, word) ∷ v.notes;
  fresh = false;
}

-- the exit x was run, which left its word, and so many members are to be armed
abbrev pub again_view : (x word members : ℕ) → View → View
again_view x word members v = record v {
  holds = drop_one x v.holds;
  resets = (x, members) ∷ v.resets;
  out = [];
  notes = (x, word) ∷ v.notes;
  fresh = false;
}

-- the member e was armed, whose done word was found, and so many are left
abbrev pub arm_view : (x left e found : ℕ) → View → View
arm_view x left e found v = record v {
  resets = (x, left) ∷ drop_one x v.resets;
  out = [];
  notes = (e, found) ∷ v.notes;
  fresh = false;
}

-- the head e was armed, the last of the members
abbrev pub head_view : (x e found : ℕ) → View → View
head_view x e found v = record v {
  holds = (e, found / 1048576) ∷ v.holds;
  resets = drop_one x v.resets;
  out = [];
  notes = (e, found) ∷ v.notes;
  fresh = false;
}

-- The pass found the last element done.
abbrev pub end_view : (last found : ℕ) → View → View
end_view last found v = record v { out = []; notes = (last, found) ∷ v.notes; ended = true; fresh = false }

-- The pass stopped the board with this stop word.
abbrev pub stop_view : ℕ → View → View
stop_view word v = record v { out = []; stops = word ∷ v.stops; fresh = false }

-- This stop word was found.
abbrev pub stop_note_view : ℕ → View → View
stop_note_view word v = record v { out = []; stop_notes = word ∷ v.stop_notes; fresh = false }

-- The pass knows that the board is stopped.
abbrev pub any_stop : List ℕ → Bool
any_stop [] = false
any_stop (n ∷ ns) = not (n == 0) || any_stop ns

abbrev pub knows_stop : View → Bool
knows_stop v = any_stop v.stops || any_stop v.stop_notes

-- A run's cell: of an exit the decided one, which goes through its component again or doesn't.
abbrev pub IsGiven : {C : Type 0} → Behaviour C → (exit again : Bool) → ℕ → List C → C → Type 0
IsGiven b true again e inputs c = (decided_cell (b.decide e inputs) ≡ c) × (is_again (b.decide e inputs) ≡ again)
IsGiven b false again e inputs c = (b.apply e inputs ≡ c) × (again ≡ false)

abbrev pub slots_in : {S : Type 0} → List (ℕ × S) → List ℕ
slots_in xs = map (λ x. x.0) xs
