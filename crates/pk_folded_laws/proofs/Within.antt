-- What waits in a run is made of parts of the bodies of its paths: the operators that are folded in it count no more than those in the body.
use Rattle.std.proofs.Common.{ℕ, ◌≤◌}
use Rattle.pk_ctypes.specs.declared.faults.Fault.{Fault}
use Rattle.pk_ctypes.specs.declared.types.Op.{Op}
use Rattle.pk_access_laws.specs.Operators.{Counting, if_some}
use Rattle.pk_access_laws.specs.Kept.{folded_in_value, folded_in_effect, folded_in_values, folded_in_all_declared, folded_in_statement, folded_in_items}
use Rattle.pk_meaning.specs.Programs.{Program, block_of}
use Rattle.pk_meaning.specs.Work.{Loop, While, DoWhile, For, Way, Onward, Refused, Lost, Caller, Nobody, Path, Ahead, Rest, Join, Again, Close, End, Work, Go, Do, Declare, Perform, Evaluate, Test, Keep, Branch, Apply, Operate, Convert, Settle, Truth, Drop, Assign, Put, Update, Advance, Fetch, Load, Reload, Store, StoreKept, Renew, Renewed, Replace, Fill, Item, Claim, Pass, Bind, Enter, Leave, Return, Turn, Back, Choose}
use Rattle.pk_meaning.specs.Steps.{Next, To, Faulted, Assumed, Returned, Wants, Stuck}

-- what is folded in the body of a path's function counts
abbrev pub in_body_of : Program → Counting → ℕ → ℕ
in_body_of p q k = folded_in_items q (block_of p k).items

-- no more than the body
abbrev pub Below : Program → Counting → ℕ → ℕ → Type 0
Below p q k m = m ≤ in_body_of p q k

abbrev pub LoopWithin : Program → Counting → ℕ → Loop → Type 0
LoopWithin p q k (While e s) = Below p q k (folded_in_value q e) × Below p q k (folded_in_statement q s)
LoopWithin p q k (DoWhile s e) = Below p q k (folded_in_value q e) × Below p q k (folded_in_statement q s)
LoopWithin p q k (For e third s) =
    Below p q k (if_some (folded_in_value q) e) × Below p q k (if_some (folded_in_effect q) third) × Below p q k (folded_in_statement q s)

abbrev mutual
  pub WayWithin : Program → Counting → ℕ → Way → Type 0
  WayWithin p q k (Onward h w) = Within p q k w
  WayWithin p q k Refused = Unit {0}
  WayWithin p q k Lost = Unit {0}

  pub CallerWithin : Program → Counting → Caller → Type 0
  CallerWithin p q Nobody = Unit {0}
  CallerWithin p q (Path k h w) = Within p q k w

  pub AheadWithin : Program → Counting → ℕ → Ahead → Type 0
  AheadWithin p q k (Rest xs is a) = Below p q k (folded_in_items q is) × AheadWithin p q k a
  AheadWithin p q k (Join h a) = AheadWithin p q k a
  AheadWithin p q k (Again h l e a) = LoopWithin p q k l × AheadWithin p q k a
  AheadWithin p q k (Close h a) = AheadWithin p q k a
  AheadWithin p q k (End c) = CallerWithin p q c

  pub Within : Program → Counting → ℕ → Work → Type 0
  Within p q k (Go a) = AheadWithin p q k a
  Within p q k (Do s a) = Below p q k (folded_in_statement q s) × AheadWithin p q k a
  Within p q k (Declare ds w) = Below p q k (folded_in_all_declared q ds) × Within p q k w
  Within p q k (Perform e w) = Below p q k (folded_in_effect q e) × Within p q k w
  Within p q k (Evaluate e w) = Below p q k (folded_in_value q e) × Within p q k w
  Within p q k (Test e y n) = Below p q k (folded_in_value q e) × WayWithin p q k y × WayWithin p q k n
  Within p q k (Keep w) = Within p q k w
  Within p q k (Branch y n) = WayWithin p q k y × WayWithin p q k n
  Within p q k (Apply op at t w) = Within p q k w
  Within p q k (Operate op at t w) = Within p q k w
  Within p q k (Convert t w) = Within p q k w
  Within p q k (Settle t w) = Within p q k w
  Within p q k (Truth z w) = Within p q k w
  Within p q k (Drop w) = Within p q k w
  Within p q k (Assign t x w) = Within p q k w
  Within p q k (Put t x w) = Within p q k w
  Within p q k (Update op at o t x w) = Within p q k w
  Within p q k (Advance op at o t x w) = Within p q k w
  Within p q k (Fetch t x w) = Within p q k w
  Within p q k (Load at a w) = Within p q k w
  Within p q k (Reload at a w) = Within p q k w
  Within p q k (Store at a w) = Within p q k w
  Within p q k (StoreKept at a w) = Within p q k w
  Within p q k (Renew op at o r a w) = Within p q k w
  Within p q k (Renewed op at o t w) = Within p q k w
  Within p q k (Replace op at o r a w) = Within p q k w
  Within p q k (Fill a j es w) = Below p q k (folded_in_values q es) × Within p q k w
  Within p q k (Item a j w) = Within p q k w
  Within p q k (Claim at w) = Within p q k w
  Within p q k (Pass es w) = Below p q k (folded_in_values q es) × Within p q k w
  Within p q k (Bind m i ts w) = Within p q k w
  Within p q k (Enter m w) = Within p q k w
  Within p q k (Leave c) = CallerWithin p q c
  Within p q k (Return c) = CallerWithin p q c
  Within p q k (Turn h l e a) = LoopWithin p q k l × AheadWithin p q k a
  Within p q k (Back h l e a) = LoopWithin p q k l × AheadWithin p q k a
  Within p q k (Choose t zs i b s h a) = Below p q k (folded_in_statement q s) × AheadWithin p q k a

abbrev pub NextWithin : Program → Counting → Next → Type 0
NextWithin p q (To d) = Within p q d.path d.work
NextWithin p q (Faulted f s) = Unit {0}
NextWithin p q Assumed = Unit {0}
NextWithin p q (Returned z) = Unit {0}
NextWithin p q (Wants t n) = Unit {0}
NextWithin p q Stuck = Unit {0}
