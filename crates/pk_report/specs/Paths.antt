-- The texts of call paths.
use Rattle.std.specs.Prelude.{ℕ, nat_lt, if◌then◌else◌, List, [], ◌∷◌, ◌++◌, codes, slice_index_or, Option, Some, None}
use Rattle.std.specs.List.{flat_map}
use Rattle.pk_ctypes.specs.Places.{pos_text}
use Rattle.pk_graph.specs.declared.trees.Site.{Site}
use Rattle.pk_graph.specs.Graphs.{PathOf}

-- the entry's name, or `>` NAME `@` L:C
abbrev pub call_text : List ℕ → Option Site → List ℕ
call_text name None = name
call_text name (Some s) = codes ">" ++ name ++ codes "@" ++ pos_text s.at

abbrev pub segment_of : PathOf → List ℕ
segment_of p = call_text p.name p.call

-- the text of the caller, where these are the texts of the paths before
abbrev pub caller_text : List (List ℕ) → Option Site → List ℕ
caller_text known None = []
caller_text known (Some s) = slice_index_or known s.path []

abbrev pub path_texts : List (List ℕ) → List PathOf → List (List ℕ)
path_texts known [] = known
path_texts known (p ∷ ps) = path_texts (known ++ (caller_text known p.call ++ segment_of p) ∷ []) ps

-- The entry's name, then each call. A path stands behind its caller.
abbrev pub path_text : List PathOf → ℕ → List ℕ
path_text ps k = slice_index_or (path_texts [] ps) k []

-- ---- path by path, up to the entry

abbrev pub no_path : PathOf
no_path = record { name = []; call = None }

abbrev pub path_at : List PathOf → ℕ → PathOf
path_at ps k = slice_index_or ps k no_path

abbrev pub before : ℕ → Option Site → Option ℕ
before k None = None
before k (Some s) = if nat_lt s.path k then Some s.path else None

-- the caller of a path
abbrev pub caller_of : List PathOf → ℕ → Option ℕ
caller_of ps k = before k (path_at ps k).call

-- the segments of paths, one after another
abbrev pub segments : List PathOf → List ℕ → List ℕ
segments ps = flat_map (λ k. segment_of (path_at ps k))
