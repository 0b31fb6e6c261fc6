-- How far a text goes as a place and as a call path.
use Rattle.std.proofs.Common.{◌≡◌, ◌⊎◌, inl, inr, ℕ, zero, suc, ◌+◌, ◌≤◌, ◌==◌, List, [], ◌∷◌, ◌++◌, length, refl, sym, ap, subst, ◌∙◌, Bool, true, false, not, cond, arith, append_assoc, one-add, lit≤}
use Rattle.std.specs.Prelude.{codes, All, count_by}
use Rattle.std.specs.List.{flat_map, take_while}
use Rattle.std.specs.Fmt.{decimal}
use Rattle.std.proofs.lemmas.Bool.{and_parts, and_from, eqb-true}
use Rattle.std.proofs.lemmas.List.Sums.{sum_by-cons}
use Rattle.std.proofs.lemmas.List.Elements.{All-head, All-tail, All-nil, All-cons}
use Rattle.pk_ctypes.specs.declared.places.Pos.{Pos}
use Rattle.pk_ctypes.specs.Places.{pos_text}
use Rattle.pk_lex.specs.Bytes.{is_part}
use Rattle.pk_show.specs.Pieces.{lacks}
use Rattle.pk_show.specs.Paths.{CallOf, call_text}
use Rattle.pk_show.specs.Laws.{IsPlace, IsCall, TellsPath}
use Rattle.pk_show.proofs.LineLemmas.{name_lacks}
use Rattle.pk_show.proofs.PathLemmas.{both_lack, place_lacks, none_of, path_lacks}
use Rattle.pk_wrong_byte.specs.Pieces.{ReachedOf, reached, literal, name, count, place, call, calls, call_count, path}
use Rattle.pk_wrong_byte_laws.proofs.Alike.{Apart}
use Rattle.pk_wrong_byte_laws.proofs.Numerals.{is_decimal}
use Rattle.pk_wrong_byte_laws.proofs.Goes.{Then, then_is, Goes, IsPiece, seq, retold_piece, eta, closed_seq, open_seq, HasBehind, nothing, after_literal, literal_next}
use Rattle.pk_wrong_byte_laws.proofs.PieceGoes.{Is, IsNameText, IsCountText, literal_piece, name_piece, count_piece}

-- ---- a place

pub record IsPlaceText (u : List ℕ) : Type 0 where
  pub at : Pos
  pub small : IsPlace at
  pub is : u ≡ pos_text at

abbrev PlaceParts : List ℕ → Type 0
PlaceParts = Then IsCountText (Then (Is (codes ":")) IsCountText)

place_there : (u : List ℕ) → PlaceParts u → IsPlaceText u
place_there u h =
    let line = h.is_first in
    let column = h.is_second.is_second in
    record {
      at = record { line = line.number; column = column.number };
      small = record { line = line.small; column = column.small };
      is = then_is u h (decimal line.number) (codes ":" ++ decimal column.number) line.is (then_is h.second h.is_second (codes ":") (decimal column.number) h.is_second.is_first column.is)
          ∙ sym (append_assoc (decimal line.number) (codes ":") (decimal column.number));
    }

place_back : (u : List ℕ) → IsPlaceText u → PlaceParts u
place_back u h = record {
  first = decimal h.at.line;
  second = codes ":" ++ decimal h.at.column;
  is_first = record { number = h.at.line; small = h.small.line; is = refl };
  is_second = record {
    first = codes ":";
    second = decimal h.at.column;
    is_first = refl;
    is_second = record { number = h.at.column; small = h.small.column; is = refl };
    joined = refl;
  };
  joined = h.is ∙ append_assoc (decimal h.at.line) (codes ":") (decimal h.at.column);
}

pub place_piece : IsPiece IsPlaceText is_decimal place
place_piece =
    retold_piece PlaceParts IsPlaceText is_decimal place place_there place_back
    (seq IsCountText (Then (Is (codes ":")) IsCountText) is_decimal is_decimal count (λ r. count (literal (codes ":") r)) count_piece
    (seq (Is (codes ":")) IsCountText nothing is_decimal (literal (codes ":")) count (literal_piece (codes ":") nothing) count_piece
    (after_literal IsCountText is_decimal))
    (literal_next is_decimal 58 [] IsCountText is_decimal refl))

-- ---- a call

pub record IsCallText (u : List ℕ) : Type 0 where
  pub call : CallOf
  pub is_call : IsCall call
  pub is : u ≡ call_text call

abbrev CallParts : List ℕ → Type 0
CallParts = Then (Is (codes ">")) (Then IsNameText (Then (Is (codes "@")) IsPlaceText))

call_there : (u : List ℕ) → CallParts u → IsCallText u
call_there u h =
    let named = h.is_second in
    let behind = named.is_second in
    let at = behind.is_second in
    record {
      call = record { name = named.first; at = at.at };
      is_call = record { name = named.is_first; at = at.small };
      is = then_is u h (codes ">") (named.first ++ (codes "@" ++ pos_text at.at)) h.is_first
          (then_is h.second named named.first (codes "@" ++ pos_text at.at) refl
          (then_is named.second behind (codes "@") (pos_text at.at) behind.is_first at.is));
    }

call_back : (u : List ℕ) → IsCallText u → CallParts u
call_back u h = record {
  first = codes ">";
  second = h.call.name ++ (codes "@" ++ pos_text h.call.at);
  is_first = refl;
  is_second = record {
    first = h.call.name;
    second = codes "@" ++ pos_text h.call.at;
    is_first = h.is_call.name;
    is_second = record {
      first = codes "@";
      second = pos_text h.call.at;
      is_first = refl;
      is_second = record { at = h.call.at; small = h.is_call.at; is = refl };
      joined = refl;
    };
    joined = refl;
  };
  joined = h.is;
}

pub call_piece : IsPiece IsCallText is_decimal call
call_piece =
    retold_piece CallParts IsCallText is_decimal call call_there call_back
    (seq (Is (codes ">")) (Then IsNameText (Then (Is (codes "@")) IsPlaceText)) nothing is_decimal (literal (codes ">"))
    (λ r. place (literal (codes "@") (name r))) (literal_piece (codes ">") nothing)
    (seq IsNameText (Then (Is (codes "@")) IsPlaceText) is_part is_decimal name (λ r. place (literal (codes "@") r)) name_piece
    (seq (Is (codes "@")) IsPlaceText nothing is_decimal (literal (codes "@")) place (literal_piece (codes "@") nothing) place_piece
    (after_literal IsPlaceText is_decimal))
    (literal_next is_part 64 [] IsPlaceText is_decimal refl))
    (after_literal (Then IsNameText (Then (Is (codes "@")) IsPlaceText)) is_decimal))

-- ---- calls

abbrev pub is_no_blank : ℕ → Bool
is_no_blank b = not (b == 32)

pub record AreCallsText (u : List ℕ) : Type 0 where
  pub calls : List CallOf
  pub are : All IsCall calls
  pub is : u ≡ flat_map call_text calls

no_calls : AreCallsText []
no_calls = record { calls = []; are = All-nil IsCall; is = refl }

calls_closed : (n : ℕ) (text : List ℕ) → calls n (reached text false) ≡ reached text false
calls_closed zero text = refl
calls_closed (suc n) text = ap (calls n) (call_piece.closed text) ∙ calls_closed n text

-- what stands behind calls is apart from a class to which neither `>` nor a blank belongs
blank_of : (b : ℕ) → is_no_blank b ≡ false → b ≡ 32
blank_of b e = by_test (b == 32) refl e
  where
    by_test : (t : Bool) → t ≡ (b == 32) → not t ≡ false → b ≡ 32
    by_test true s f = eqb-true b 32 (sym s)
    by_test false s f = absurd (cc f)

blank_behind : (test : ℕ → Bool) → test 32 ≡ false → (w : List ℕ) → Apart is_no_blank w → Apart test w
blank_behind test e [] a = tt
blank_behind test e (b ∷ w) a = ap test (blank_of b a) ∙ e

calls_behind : (test : ℕ → Bool) → test 32 ≡ false → test 62 ≡ false → HasBehind test AreCallsText is_no_blank
calls_behind test blank other b w h a = by_calls h.calls h.is
  where
    by_calls : (cs : List CallOf) → b ≡ flat_map call_text cs → Apart test (b ++ w)
    by_calls [] e = subst (λ (t : List ℕ). Apart test (t ++ w)) (sym e) (blank_behind test blank w a)
    by_calls (c ∷ cs) e = subst (λ (t : List ℕ). Apart test (t ++ w)) (sym e) other

-- how many calls are begun
isnt : (c b : ℕ) → not (c == b) ≡ true → (b == c) ≡ false
isnt c b e = All-head (λ b. (b == c) ≡ false) b [] (none_of c (b ∷ []) (and_from (not (c == b)) true e refl))

front_more : (b : ℕ) (text : List ℕ) → is_no_blank b ≡ true → take_while is_no_blank (b ∷ text) ≡ b ∷ take_while is_no_blank text
front_more b text e = rw (e, one-add) refl

count_step : (b : ℕ) (text : List ℕ) → is_no_blank b ≡ true → call_count (b ∷ text) ≡ cond (b == 62) 1 0 + call_count text
count_step b text e =
    ap (count_by (λ c. c == 62)) (front_more b text e) ∙ sum_by-cons (λ c. cond (c == 62) 1 0) b (take_while is_no_blank text)

count_first : (text : List ℕ) → call_count (62 ∷ text) ≡ suc (call_count text)
count_first text = count_step 62 text refl ∙ one-add (call_count text)

count_past : (front rest : List ℕ) → lacks 32 front ≡ true → lacks 62 front ≡ true → call_count (front ++ rest) ≡ call_count rest
count_past [] rest blank other = refl
count_past (b ∷ front) rest blank other =
    let no_blank = and_parts (not (32 == b)) (lacks 32 front) blank in
    let no_other = and_parts (not (62 == b)) (lacks 62 front) other in
    let isnt_blank : is_no_blank b ≡ true = ap not (isnt 32 b no_blank.0) in
    let step = count_step b (front ++ rest) isnt_blank in
    let none : cond {A = ℕ} (b == 62) 1 0 ≡ 0 = ap (λ (t : Bool). cond t 1 0) (isnt 62 b no_other.0) in
    let rest_counted = count_past front rest no_blank.1 no_other.1 in
    omega (arith, step, none, rest_counted)

count_call : (c : CallOf) (rest : List ℕ) → IsCall c → call_count (call_text c ++ rest) ≡ suc (call_count rest)
count_call c rest h =
    let behind = c.name ++ (codes "@" ++ pos_text c.at) in
    count_first (behind ++ rest)
    ∙ ap suc (count_past behind rest
    (both_lack 32 c.name (codes "@" ++ pos_text c.at) (name_lacks 32 c.name refl h.name) (both_lack 32 (codes "@") (pos_text c.at) refl (place_lacks 32 c.at (lit≤ tt) refl h.at)))
    (both_lack 62 c.name (codes "@" ++ pos_text c.at) (name_lacks 62 c.name refl h.name) (both_lack 62 (codes "@") (pos_text c.at) refl (place_lacks 62 c.at (lit≤ tt) refl h.at))))

more_calls : (u : List ℕ) → Then IsCallText AreCallsText u → AreCallsText u
more_calls u h = record {
  calls = h.is_first.call ∷ h.is_second.calls;
  are = All-cons IsCall h.is_first.call h.is_second.calls h.is_first.is_call h.is_second.are;
  is = then_is u h (call_text h.is_first.call) (flat_map call_text h.is_second.calls) h.is_first.is h.is_second.is;
}

some_calls : (text : List ℕ) (s : ReachedOf) (n : ℕ) → call_count text ≡ suc n → Goes (Then IsCallText AreCallsText) is_no_blank text s →
    Goes AreCallsText is_no_blank text s
some_calls text s n begun g = record {
  front = g.front;
  split = g.split;
  begins = record { more = g.begins.more; whole = more_calls (g.front ++ g.begins.more) g.begins.whole };
  whole = λ o. more_calls g.front (g.whole o);
  furthest = λ u w x y same h a e f. by_calls u w x y same a e f h.calls h.are h.is;
}
  where
    nothing_same : (w x y same : List ℕ) → Apart is_no_blank w → w ≡ same ++ x → text ≡ same ++ y → length same ≤ 0
    nothing_same w x y [] a e f = omega arith
    nothing_same [] x y (b ∷ same) a e f = absurd (cc e)
    nothing_same (c ∷ w) x y (b ∷ same) a e f =
        let blank : b ≡ 32 = cc (e, blank_of c a) in
        let here : call_count text ≡ 0 = ap call_count f ∙ ap (λ (d : ℕ). call_count (d ∷ (same ++ y))) blank in
        let both : suc n ≡ 0 = sym begun ∙ here in
        absurd (cc both)

    by_calls : (u w x y same : List ℕ) → Apart is_no_blank w → u ++ w ≡ same ++ x → text ≡ same ++ y → (cs : List CallOf) → All IsCall cs →
        u ≡ flat_map call_text cs → (length same ≤ length g.front) ⊎ ((s.is_open ≡ true) × (u ≡ g.front))
    by_calls u w x y same a e f [] all is =
        let none = nothing_same w x y same a (ap (λ (t : List ℕ). t ++ w) (sym is) ∙ e) f in
        inl (omega (arith, none))
    by_calls u w x y same a e f (c ∷ cs) all is =
        g.furthest u w x y same (record {
          first = call_text c;
          second = flat_map call_text cs;
          is_first = record { call = c; is_call = All-head IsCall c cs all; is = refl };
          is_second = record { calls = cs; are = All-tail IsCall c cs all; is = refl };
          joined = is;
        }) a e f

calls_goes : (n : ℕ) (text : List ℕ) → call_count text ≡ n → Goes AreCallsText is_no_blank text (calls n (reached text true))
calls_goes zero text e = record {
  front = [];
  split = refl;
  begins = record { more = []; whole = no_calls };
  whole = λ o. no_calls;
  furthest = λ u w x y same h a f g. by_calls u w x y same f g h.calls h.is;
}
  where
    none_begun : (x y same : List ℕ) (t : List ℕ) → 62 ∷ t ≡ same ++ x → text ≡ same ++ y → length same ≤ 0
    none_begun x y [] t f g = omega arith
    none_begun x y (b ∷ same) t f g =
        let call : b ≡ 62 = cc f in
        let here : call_count text ≡ suc (call_count (same ++ y)) =
        ap call_count g ∙ ap (λ (d : ℕ). call_count (d ∷ (same ++ y))) call ∙ count_first (same ++ y) in
        let both : 0 ≡ suc (call_count (same ++ y)) = sym e ∙ here in
        absurd (cc both)

    by_calls : (u w x y same : List ℕ) → u ++ w ≡ same ++ x → text ≡ same ++ y → (cs : List CallOf) → u ≡ flat_map call_text cs →
        (length same ≤ 0) ⊎ ((true ≡ true) × (u ≡ []))
    by_calls u w x y same f g [] is = inr (refl, is)
    by_calls u w x y same f g (c ∷ cs) is =
        inl (none_begun x y same (((c.name ++ (codes "@" ++ pos_text c.at)) ++ flat_map call_text cs) ++ w) (ap (λ (t : List ℕ). t ++ w) (sym is) ∙ f) g)
calls_goes (suc n) text e =
    some_calls text (calls n (call (reached text true))) n e (by_open (call (reached text true)).is_open refl (λ rest count. calls_goes n rest count))
  where
    by_open : (t : Bool) → t ≡ (call (reached text true)).is_open →
        ((rest : List ℕ) → call_count rest ≡ n → Goes AreCallsText is_no_blank rest (calls n (reached rest true))) →
        Goes (Then IsCallText AreCallsText) is_no_blank text (calls n (call (reached text true)))
    by_open true o rest =
        let r = call (reached text true) in
        let g = call_piece.goes text in
        let c = g.whole (sym o) in
        let counted : call_count text ≡ suc (call_count r.rest) =
        ap call_count g.split ∙ ap (λ (t : List ℕ). call_count (t ++ r.rest)) c.is ∙ count_call c.call r.rest c.is_call in
        open_seq IsCallText AreCallsText is_decimal is_no_blank text r (calls n r) g (sym o)
        (eta AreCallsText is_no_blank (calls n) r true o (rest r.rest (let both : suc (call_count r.rest) ≡ suc n = sym counted ∙ e in cc both)))
        (calls_behind is_decimal refl refl)
    by_open false o rest =
        let r = call (reached text true) in
        closed_seq IsCallText AreCallsText is_decimal is_no_blank text r (calls n r) (call_piece.goes text) (sym o)
        (ap (λ (t : Bool). calls n (reached r.rest t)) (sym o) ∙ calls_closed n r.rest) [] no_calls
        (calls_behind is_decimal refl refl)

-- ---- a path

path_there : (u : List ℕ) → Then IsNameText AreCallsText u → TellsPath u
path_there u h = (
  record { entry = h.first; calls = h.is_second.calls },
  record { entry = h.is_first; calls = h.is_second.are },
  then_is u h h.first (flat_map call_text h.is_second.calls) refl h.is_second.is,
)

path_back : (u : List ℕ) → TellsPath u → Then IsNameText AreCallsText u
path_back u h = record {
  first = h.0.entry;
  second = flat_map call_text h.0.calls;
  is_first = h.1.entry;
  is_second = record { calls = h.0.calls; are = h.1.calls; is = refl };
  joined = h.2;
}

path_closed : (text : List ℕ) → path (reached text false) ≡ reached text false
path_closed text =
    ap (λ (r : ReachedOf). calls (call_count r.rest) r) (name_piece.closed text) ∙ calls_closed (call_count text) text

path_goes : (text : List ℕ) (t : Bool) → t ≡ (name (reached text true)).is_open → Goes (Then IsNameText AreCallsText) is_no_blank text (path (reached text true))
path_goes text true o =
    let r = name (reached text true) in
    let n = call_count r.rest in
    open_seq IsNameText AreCallsText is_part is_no_blank text r (calls n r) (name_piece.goes text) (sym o)
    (eta AreCallsText is_no_blank (calls n) r true o (calls_goes n r.rest refl))
    (calls_behind is_part refl refl)
path_goes text false o =
    let r = name (reached text true) in
    let n = call_count r.rest in
    closed_seq IsNameText AreCallsText is_part is_no_blank text r (calls n r) (name_piece.goes text) (sym o)
    (ap (λ (t : Bool). calls n (reached r.rest t)) (sym o) ∙ calls_closed n r.rest) [] no_calls
    (calls_behind is_part refl refl)

pub path_piece : IsPiece TellsPath is_no_blank path
path_piece = retold_piece (Then IsNameText AreCallsText) TellsPath is_no_blank path path_there path_back (record {
  closed = path_closed;
  goes = λ text. path_goes text (name (reached text true)).is_open refl;
})

pub no_blank_in : (u : List ℕ) → TellsPath u → lacks 32 u ≡ true
no_blank_in u h = ap (lacks 32) h.2 ∙ path_lacks 32 h.0 refl (lit≤ tt) refl refl refl h.1
