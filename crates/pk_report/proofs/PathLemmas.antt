-- The texts of call paths, path by path.
use Rattle.std.proofs.Common.{◌≡◌, ◌<◌, ◌≤◌, ◌+◌, ℕ, zero, suc, refl, ap, ◌∙◌, sym, Bool, true, false, if◌then◌else◌, nat_lt, ◌⊎◌, inl, inr, List, [], ◌∷◌, ◌++◌, length, reverse, slice_index_or, Option, Some, None, arith, add-zero, append_assoc, append-nil}
use lib.Dec.{leb}
use Rattle.std.proofs.lemmas.Bool.Decides.{leb_tells}
use Rattle.std.proofs.lemmas.List.{get_or_append_left, get_or_at, get_or_past, length_push, reverse-append}
use Rattle.pk_graph.specs.declared.trees.Site.{Site}
use Rattle.pk_graph.specs.Graphs.{PathOf}
use Rattle.pk_report.specs.Paths.{segment_of, caller_text, path_texts, path_text, no_path, path_at, before, caller_of, segments}

abbrev one_more : List (List ℕ) → PathOf → List (List ℕ)
one_more known p = known ++ (caller_text known p.call ++ segment_of p) ∷ []

texts_length : (known : List (List ℕ)) (ps : List PathOf) → length (path_texts known ps) ≡ length known + length ps
texts_length known [] = sym (add-zero (length known))
texts_length known (p ∷ ps) = texts_length (one_more known p) ps ∙ more
  where
    more : length (one_more known p) + length ps ≡ length known + suc (length ps)
    more = omega (arith, length_push known (caller_text known p.call ++ segment_of p))

texts_keep : (known : List (List ℕ)) (ps : List PathOf) (k : ℕ) → k < length known → slice_index_or (path_texts known ps) k [] ≡ slice_index_or known k []
texts_keep known [] k h = refl
texts_keep known (p ∷ ps) k h =
    texts_keep (one_more known p) ps k (omega (arith, h, length_push known (caller_text known p.call ++ segment_of p)))
    ∙ get_or_append_left known ((caller_text known p.call ++ segment_of p) ∷ []) [] k h

-- the text in front of a path's segment: that of its caller, if that stands before it
abbrev front : List (List ℕ) → ℕ → Option Site → List ℕ
front texts n None = []
front texts n (Some s) = if nat_lt s.path n then slice_index_or texts s.path [] else []

front_is : (known : List (List ℕ)) (ps : List PathOf) (call : Option Site) → caller_text known call ≡ front (path_texts known ps) (length known) call
front_is known ps None = refl
front_is known ps (Some s) = told (leb_tells (suc s.path) (length known))
  where
    told : ((leb (suc s.path) (length known) ≡ true) × (suc s.path ≤ length known)) ⊎ ((leb (suc s.path) (length known) ≡ false) × (length known < suc s.path))
        → slice_index_or known s.path [] ≡ (if nat_lt s.path (length known) then slice_index_or (path_texts known ps) s.path [] else [])
    told (inl e) =
        sym (texts_keep known ps s.path (omega (arith, e.1)))
        ∙ sym (ap (λ (b : Bool). if b then slice_index_or (path_texts known ps) s.path [] else []) e.0)
    told (inr e) =
        get_or_past known s.path [] (omega (arith, e.1))
        ∙ sym (ap (λ (b : Bool). if b then slice_index_or (path_texts known ps) s.path [] else []) e.0)

text_at : (known : List (List ℕ)) (ps : List PathOf) (j : ℕ) (d : PathOf) → j < length ps
    → slice_index_or (path_texts known ps) (length known + j) [] ≡ front (path_texts known ps) (length known + j) (slice_index_or ps j d).call ++ segment_of (slice_index_or ps j d)
text_at known [] j d h = absurd (omega (arith, h))
text_at known (p ∷ ps) zero d h =
    ap (λ (k : ℕ). slice_index_or (path_texts known (p ∷ ps)) k []) (add-zero (length known))
    ∙ texts_keep (one_more known p) ps (length known) (omega (arith, length_push known (caller_text known p.call ++ segment_of p)))
    ∙ get_or_at known (caller_text known p.call ++ segment_of p) [] [] (length known) refl
    ∙ ap (λ (xs : List ℕ). xs ++ segment_of p) (front_is known (p ∷ ps) p.call)
    ∙ ap (λ (k : ℕ). front (path_texts known (p ∷ ps)) k p.call ++ segment_of p) (sym (add-zero (length known)))
text_at known (p ∷ ps) (suc j) d h =
    let more : length known + suc j ≡ length (one_more known p) + j = omega (arith, length_push known (caller_text known p.call ++ segment_of p)) in
    ap (λ (k : ℕ). slice_index_or (path_texts (one_more known p) ps) k []) more
    ∙ text_at (one_more known p) ps j d (omega (arith, h))
    ∙ ap (λ (k : ℕ). front (path_texts (one_more known p) ps) k (slice_index_or ps j d).call ++ segment_of (slice_index_or ps j d)) (sym more)

-- the text of a caller, if there is one
abbrev above : List PathOf → Option ℕ → List ℕ
above ps None = []
above ps (Some k) = path_text ps k

front_above : (ps : List PathOf) (k : ℕ) (call : Option Site) → front (path_texts [] ps) k call ≡ above ps (before k call)
front_above ps k None = refl
front_above ps k (Some s) = told (nat_lt s.path k)
  where
    told : (b : Bool) → (if b then slice_index_or (path_texts [] ps) s.path [] else []) ≡ above ps (if b then Some s.path else None)
    told true = refl
    told false = refl

-- a path's text is its caller's and its own segment
text_is : (ps : List PathOf) (k : ℕ) → path_text ps k ≡ above ps (caller_of ps k) ++ segment_of (path_at ps k)
text_is ps k = told (leb_tells (suc k) (length ps))
  where
    told : ((leb (suc k) (length ps) ≡ true) × (suc k ≤ length ps)) ⊎ ((leb (suc k) (length ps) ≡ false) × (length ps < suc k)) → path_text ps k ≡ above ps (caller_of ps k) ++ segment_of (path_at ps k)
    told (inl e) =
        let same : 0 + k ≡ k = omega arith in
        ap (path_text ps) (sym same)
        ∙ text_at [] ps k no_path (omega (arith, e.1))
        ∙ ap (λ (n : ℕ). front (path_texts [] ps) n (path_at ps k).call ++ segment_of (path_at ps k)) same
        ∙ ap (λ (xs : List ℕ). xs ++ segment_of (path_at ps k)) (front_above ps k (path_at ps k).call)
    told (inr e) =
        get_or_past (path_texts [] ps) k [] (omega (arith, e.1, texts_length [] ps))
        ∙ sym (ap (λ (p : PathOf). above ps (before k p.call) ++ segment_of p) (get_or_past ps k no_path (omega (arith, e.1))))

-- ---- the way up to the entry

-- the text of a path is what is above the current one, and the segments listed so far, the last first
abbrev pub IsUp : List PathOf → (path current : ℕ) → List ℕ → Type 0
IsUp ps path current line = path_text ps path ≡ above ps (caller_of ps current) ++ segments ps (reverse line)

pub up_begin : (ps : List PathOf) (path : ℕ) (line : List ℕ) → line ≡ path ∷ [] → IsUp ps path path line
up_begin ps path line e =
    text_is ps path
    ∙ ap (λ (xs : List ℕ). above ps (caller_of ps path) ++ xs) (sym (append-nil (segment_of (path_at ps path))))
    ∙ ap (λ (xs : List ℕ). above ps (caller_of ps path) ++ segments ps (reverse xs)) (sym e)

pub up_next : (ps : List PathOf) (path current next : ℕ) (line new : List ℕ) → caller_of ps current ≡ Some next → new ≡ line ++ next ∷ [] → IsUp ps path current line → IsUp ps path next new
up_next ps path current next line new e f h =
    h
    ∙ ap (λ (o : Option ℕ). above ps o ++ segments ps (reverse line)) e
    ∙ ap (λ (xs : List ℕ). xs ++ segments ps (reverse line)) (text_is ps next)
    ∙ append_assoc (above ps (caller_of ps next)) (segment_of (path_at ps next)) (segments ps (reverse line))
    ∙ ap (λ (xs : List ℕ). above ps (caller_of ps next) ++ segments ps xs) (sym (ap reverse f ∙ reverse-append line (next ∷ [])))

pub up_end : (ps : List PathOf) (path current : ℕ) (line turned : List ℕ) → caller_of ps current ≡ None → turned ≡ reverse line → IsUp ps path current line → segments ps turned ≡ path_text ps path
up_end ps path current line turned e f h =
    ap (segments ps) f ∙ sym (h ∙ ap (λ (o : Option ℕ). above ps o ++ segments ps (reverse line)) e)
