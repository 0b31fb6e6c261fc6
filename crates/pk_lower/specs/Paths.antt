-- The call paths of a graph: each has its function's name, and but for the entry the call that enters it.
use Rattle.std.specs.Prelude.{ℕ, List, slice_get, option_map, unwrap_or}
use Rattle.pk_ctypes.specs.declared.places.Pos.{Pos}
use Rattle.pk_typed.specs.declared.units.CallSite.{CallSite}
use Rattle.pk_typed.specs.Trees.{UnitTree}
use Rattle.pk_calls.specs.declared.listings.Caller.{Caller}
use Rattle.pk_calls.specs.declared.listings.CallPath.{CallPath}
use Rattle.pk_calls.specs.Calls.{name_of, calls_of}
use Rattle.pk_graph.specs.declared.trees.Site.{Site}
use Rattle.pk_graph.specs.Graphs.{PathOf}
use Rattle.pk_typed.specs.Defaults.{nowhere_in_text}

-- the place of the name at a call of a function
abbrev pub place_of : UnitTree → (function call : ℕ) → Pos
place_of u f n = unwrap_or (option_map (λ (s : CallSite). s.at) (slice_get (calls_of u f) n)) nowhere_in_text

-- a call, by its path and the place of the name there
abbrev pub site_of_call : UnitTree → List CallPath → Caller → Site
site_of_call u paths c = record {
  path = c.path;
  at = unwrap_or (option_map (λ (p : CallPath). place_of u p.function c.call) (slice_get paths c.path)) nowhere_in_text;
}

abbrev pub path_of : UnitTree → List CallPath → CallPath → PathOf
path_of u paths p = record { name = name_of u p.function; call = option_map (site_of_call u paths) p.caller }
