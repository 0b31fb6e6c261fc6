-- The text of each call path is that of an entry and of calls.
use Rattle.std.proofs.Common.{subst, ◌≡◌, ◌<◌, ◌≤◌, ◌+◌, ℕ, suc, sym, ap, ◌∙◌, ◌⊎◌, inl, inr, List, [], ◌∷◌, ◌++◌, length, slice_index_or, Option, Some, None, arith, append_assoc, true, false}
use Rattle.std.specs.Prelude.{codes}
use Rattle.std.specs.List.{flat_map}
use lib.Dec.{leb}
use Rattle.std.proofs.lemmas.Bool.Decides.{leb_tells}
use Rattle.std.proofs.lemmas.Grind.{flat_map-append}
use Rattle.std.proofs.lemmas.List.{append-nil, get_or_append_left, get_or_at, length_push}
use Rattle.std.proofs.lemmas.List.Elements.{All-append, All-cons, All-nil}
use Rattle.pk_ctypes.specs.Places.{pos_text}
use Rattle.pk_graph.specs.declared.trees.Site.{Site}
use Rattle.pk_graph.specs.Graphs.{PathOf, GraphOf}
use Rattle.pk_report.specs.Paths.{call_text as segment_text, segment_of, caller_text, path_texts, path_text, no_path}
use Rattle.pk_show.specs.Pieces.{is_identifier}
use Rattle.pk_show.specs.Paths.{CallOf, call_text}
use Rattle.pk_show.specs.Laws.{IsCall, TellsPath}
use Rattle.pk_show_laws.specs.Tellable.{IsCalledBefore, IsPathOf, IsTellableGraph}

-- the text of path k, which for the first path is its entry's name
pub record Tells (k : ℕ) (text : List ℕ) : Type 0 where
  pub path : TellsPath text
  pub first : k ≡ 0 → is_identifier text ≡ true

segment_is : (name place : List ℕ) → codes ">" ++ name ++ codes "@" ++ place ≡ (codes ">" ++ (name ++ (codes "@" ++ place))) ++ []
segment_is name place =
    append_assoc (codes ">" ++ name) (codes "@") place
    ∙ append_assoc (codes ">") name (codes "@" ++ place)
    ∙ sym (append-nil (codes ">" ++ (name ++ (codes "@" ++ place))))

entry_tells : (name : List ℕ) → is_identifier name ≡ true → TellsPath name
entry_tells name h = (record { entry = name; calls = [] }, record { entry = h; calls = All-nil IsCall }, sym (append-nil name))

call_tells : (front name : List ℕ) (s : Site) → is_identifier name ≡ true → IsCall (record { name = name; at = s.at }) → TellsPath front →
    TellsPath (front ++ segment_text name (Some s))
call_tells front name s named is_call h =
    let c : CallOf = record { name = name; at = s.at } in
    let q = h.0 in (
      record { entry = q.entry; calls = q.calls ++ c ∷ [] },
      record { entry = h.1.entry; calls = All-append IsCall q.calls (c ∷ []) h.1.calls (All-cons IsCall c [] is_call (All-nil IsCall)) },
      ap (λ (l : List ℕ). l ++ segment_text name (Some s)) h.2
          ∙ append_assoc q.entry (flat_map call_text q.calls) (segment_text name (Some s))
          ∙ ap (λ (l : List ℕ). q.entry ++ (flat_map call_text q.calls ++ l)) (segment_is name (pos_text s.at))
          ∙ ap (λ (l : List ℕ). q.entry ++ l) (sym (flat_map-append call_text q.calls (c ∷ []))),
    )

-- the paths before tell theirs
abbrev AllTell : List (List ℕ) → Type 0
AllTell known = (k : ℕ) → k < length known → Tells k (slice_index_or known k [])

next_tells : (known : List (List ℕ)) (name : List ℕ) (call : Option Site) → is_identifier name ≡ true → IsCalledBefore (length known) call →
    AllTell known → Tells (length known) (caller_text known call ++ segment_text name call)
next_tells known name None named h all = record { path = entry_tells name named; first = λ e. named }
next_tells known name (Some s) named h all =
    record {
      path = call_tells (slice_index_or known s.path []) name s named (record { name = named; at = h.1 }) (all s.path h.0).path;
      first = λ e. absurd (let before = h.0 in omega (arith, before, e));
    }

more_tell : (known : List (List ℕ)) (text : List ℕ) → AllTell known → Tells (length known) text → AllTell (known ++ text ∷ [])
more_tell known text all new k l = by_place (leb_tells (suc k) (length known))
  where
    by_place : ((leb (suc k) (length known) ≡ true) × (suc k ≤ length known)) ⊎ ((leb (suc k) (length known) ≡ false) × (length known < suc k)) →
        Tells k (slice_index_or (known ++ text ∷ []) k [])
    by_place (inl e) =
        let within : k < length known = let e' = e.1 in omega (arith, e') in
        let same = get_or_append_left known (text ∷ []) [] k within in
        subst (λ (t : List ℕ). Tells k t) (sym same) (all k within)
    by_place (inr e) =
        let last : length known ≡ k = let e' = e.1 in omega (arith, e', l, length_push known text) in
        let same = get_or_at known text [] [] k last in
        subst (λ (t : List ℕ). Tells k t) (sym same) (subst (λ (n : ℕ). Tells n text) last new)

texts_tell : (ps : List PathOf) (known : List (List ℕ)) →
    ((j : ℕ) → j < length ps → IsPathOf (length known + j) (slice_index_or ps j no_path)) → AllTell known →
    (k : ℕ) → k < length known + length ps → Tells k (slice_index_or (path_texts known ps) k [])
texts_tell [] known each all k l = all k (omega (arith, l))
texts_tell (p ∷ ps) known each all k l =
    let text = caller_text known p.call ++ segment_of p in
    let more : length (known ++ text ∷ []) ≡ length known + 1 = length_push known text in
    let first = each 0 (omega arith) in
    let called : IsCalledBefore (length known) p.call = subst (λ (n : ℕ). IsCalledBefore n p.call) (omega arith) first.call in
    texts_tell ps (known ++ text ∷ [])
    (λ j less. subst (λ (n : ℕ). IsPathOf n (slice_index_or ps j no_path)) (omega (arith, more)) (each (suc j) (omega (arith, less))))
    (more_tell known text all (next_tells known p.name p.call first.name called all))
    k (omega (arith, l, more))

pub paths_tell : (g : GraphOf) → IsTellableGraph g → (k : ℕ) → k < length g.paths → Tells k (path_text g.paths k)
paths_tell g h k l =
    texts_tell g.paths [] (λ j less. subst (λ (n : ℕ). IsPathOf n (slice_index_or g.paths j no_path)) (omega arith) (h.paths j less))
    (λ k less. absurd (omega (arith, less))) k (omega (arith, l))
