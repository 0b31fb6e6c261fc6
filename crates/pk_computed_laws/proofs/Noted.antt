-- A graph over slots stands whatever is noted of a run.
use Rattle.std.proofs.Common.{ℕ, List, Bool, true, false, Option, Some, None}
use Rattle.pk_ctypes.specs.declared.places.Pos.{Pos}
use Rattle.pk_ctypes.specs.declared.types.IntType.{IntType}
use Rattle.pk_typed.specs.Trees.{ValueTree}
use Rattle.pk_welltyped.specs.Listed.{Numbered}
use Rattle.pk_graph.specs.Trees.{Skip, Set, Havoc, Clear, Load, Store, Guard, Check}
use Rattle.pk_draft.specs.Drafts.{DraftOf}
use Rattle.pk_lower_statement.specs.declared.statements.Exits.{Exits}
use Rattle.pk_meaning.specs.Work.{Place, Work}
use Rattle.pk_visits.proofs.Slots.{Slot, Draft, Instr}
use Rattle.pk_visits.proofs.Stands.{Whole, Leads, Stage, Proper, Held, Writes, EndedBy, Ended, BodyOf, BodiesStand}
use Rattle.pk_visits.proofs.Numbered.Stores.{Naming}
use Rattle.pk_visits.proofs.Numbered.Copies.{HasOtherWay, IsCopy}

abbrev pub Begins : Type 1
Begins = ℕ → ValueTree → Work → Type 0

abbrev pub Reads : Type 1
Reads = ℕ → Pos → Type 0

-- the graph, of which this is noted
abbrev pub noted : Whole → Begins → Reads → Whole
noted g B R = record {
  program = g.program;
  sizes = g.sizes;
  firsts = g.firsts;
  edges = g.edges;
  labels = g.labels;
  regions = g.regions;
  scopes = g.scopes;
  shows = g.shows;
  objects = g.objects;
  numbers = g.numbers;
  spans = g.spans;
  turns = g.turns;
  begun = B;
  read = R;
}

leads_on : (g : Whole) (B : Begins) (R : Reads) (marks later : List ℕ) (d : Draft) → Leads g marks later d → Leads (noted g B R) marks later d
leads_on g B R marks later d l = record { edges = l.edges; names = l.names; room = l.room; labels = l.labels; regions = l.regions; paths = l.paths; scopes = l.scopes }

stage_on : (g : Whole) (B : Begins) (R : Reads) (k : ℕ) (h : Place) (calls : List Numbered) (d e : Draft) → Stage g k h calls d e → Stage (noted g B R) k h calls d e
stage_on g B R k h calls d e s = record {
  marks = s.marks;
  later = s.later;
  leads = leads_on g B R s.marks s.later e s.leads;
  bounded = s.bounded;
  free = s.free;
  spans = s.spans;
  here = s.here;
  apart = s.apart;
  distinct = s.distinct;
  path = s.path;
  noted = s.noted;
}

writes_on : (g : Whole) (B : Begins) (R : Reads) (k : ℕ) (h : Place) (p : ℕ) (x : Slot) (i : Instr) (q : ℕ) (hs : List Held) → Writes g k h p x i q hs → Writes (noted g B R) k h p x i q hs
writes_on g B R k h p x i q hs w = record { there = w.there; shown = w.shown; apart = w.apart; plain = w.plain }

ended_by_on : (g : Whole) (B : Begins) (R : Reads) (k : ℕ) (b : Bool) (t : Option IntType) (p q : ℕ) (hs : List Held) → EndedBy g k b t p q hs → EndedBy (noted g B R) k b t p q hs
ended_by_on g B R k b None p q hs e = e
ended_by_on g B R k true (Some t) p q hs e = writes_on g B R k _ p _ _ q hs e
ended_by_on g B R k false (Some t) p q hs e = writes_on g B R k _ p _ _ q hs e

ended_on : (g : Whole) (B : Begins) (R : Reads) (k : ℕ) (x : Exits) (p : ℕ) (hs : List Held) → Ended g k x p hs → Ended (noted g B R) k x p hs
ended_on g B R k x p hs e = record { to = e.to; falls = ended_by_on g B R k _ _ p e.to hs e.falls; leaves = e.leaves; exit = e.exit }

body_on : (g : Whole) (B : Begins) (R : Reads) (m : ℕ) → BodyOf g m → BodyOf (noted g B R) m
unfolding stage_on
body_on g B R m b = record {
  exits = b.exits;
  draft = b.draft;
  objects = b.objects;
  mark = b.mark;
  enters = b.enters;
  leaves = b.leaves;
  bare = b.bare;
  variables = b.variables;
  fits = b.fits;
  stage = stage_on g B R m _ _ b.draft _ b.stage;
  marking = b.marking;
  settled = b.settled;
  ended = λ hs c. ended_on g B R m b.exits _ hs (b.ended hs c);
}

pub bodies_on : (g : Whole) (B : Begins) (R : Reads) → BodiesStand g → BodiesStand (noted g B R)
bodies_on g B R b m there = body_on g B R m (b m there)

pub proper_on : (g : Whole) (B : Begins) (R : Reads) → Proper g → Proper (noted g B R)
proper_on g B R p = record {
  callees = p.callees;
  there = p.there;
  functions = p.functions;
  behind = p.behind;
  at_positions = p.at_positions;
  positions = p.positions;
  scopes = p.scopes;
  enters = p.enters;
  shares = p.shares;
  hides = p.hides;
  parameters = p.parameters;
}

other_on : (g : Whole) (B : Begins) (R : Reads) (p : ℕ) (i : Instr) → HasOtherWay g p i → HasOtherWay (noted g B R) p i
other_on g B R p Skip h = h
other_on g B R p (Set x e) h = h
other_on g B R p (Havoc x t n) h = h
other_on g B R p (Clear a) h = h
other_on g B R p (Load x a s b i) h = h
other_on g B R p (Store a s b i e) h = h
other_on g B R p (Guard e b) h = h
other_on g B R p (Check s e) h = h

pub copy_on : (f : Naming) (M : Slot → Type 0) (g : Whole) (B : Begins) (R : Reads) (d : DraftOf ℕ) → IsCopy f M g d → IsCopy f M (noted g B R) d
copy_on f M g B R d c = record {
  naming = c.naming;
  edges = c.edges;
  over = c.over;
  labels = c.labels;
  shown = c.shown;
  somewhere = c.somewhere;
  named = c.named;
  other_ways = λ e a n. other_on g B R e.from e.instr (c.other_ways e a n);
}
