use Rattle.std.proofs.Common.{rules, subst, sym, ◌∙◌}
use Rattle.pk_ctypes.specs.declared.types.IntType.{IntType}
use Rattle.pk_graph.specs.declared.instructions.Instr.{Instr}
use Rattle.pk_graph.specs.Trees.{Set, Havoc, Clear, Load, Store, Guard, Check}
use Rattle.pk_graph.specs.Kinds.{IsTypedInstr}
use Rattle.pk_graph.specs.Views.{tree_view, array_view, instr_view}
use Rattle.pk_octagons.specs.Values.{IsValue}
use Rattle.pk_transfer.specs.Slots.{HasSlots}
use Rattle.pk_transfer.proofs.Slotting.{own_type, has_slots, array_slots}
use Rattle.pk_transfer.proofs.Over.{tree_over, fits_over}
use Rattle.pk_transfer.proofs.transfers.apply.Goals as goal

pub set-requires-clause-typed : goal.set-requires-clause-typed
unfolding instr_view
set-requires-clause-typed c =
    let ks = c.requires.kinds in
    let i = c.in-Set in
    let typed : IsTypedInstr ks (Set i.x (tree_view i.e)) = subst (λ (j : Instr). IsTypedInstr ks (instr_view j)) i.is c.requires.typed in
    tree_over ks c.args.state.layout (tree_view i.e) c.requires.over typed.1.typed

pub set-requires-clause-fits : goal.set-requires-clause-fits
unfolding instr_view
set-requires-clause-fits c =
    let ks = c.requires.kinds in
    let i = c.in-Set in
    let typed : IsTypedInstr ks (Set i.x (tree_view i.e)) = subst (λ (j : Instr). IsTypedInstr ks (instr_view j)) i.is c.requires.typed in
    fits_over ks c.args.state.layout i.x (tree_view i.e) c.requires.over typed.0.there typed.1

pub load-requires-clause-typed : goal.load-requires-clause-typed
unfolding instr_view
load-requires-clause-typed c =
    let ks = c.requires.kinds in
    let i = c.in-Load in
    let typed : IsTypedInstr ks (Load i.variable (array_view i.array) i.site i.is_access (tree_view i.index)) = subst (λ (j : Instr). IsTypedInstr ks (instr_view j)) i.is c.requires.typed in
    tree_over ks c.args.state.layout (tree_view i.index) c.requires.over typed.3

pub store-requires-clause-index : goal.store-requires-clause-index
unfolding instr_view
store-requires-clause-index c =
    let ks = c.requires.kinds in
    let i = c.in-Store in
    let typed : IsTypedInstr ks (Store (array_view i.array) i.site i.is_access (tree_view i.index) (tree_view i.value)) = subst (λ (j : Instr). IsTypedInstr ks (instr_view j)) i.is c.requires.typed in
    tree_over ks c.args.state.layout (tree_view i.index) c.requires.over typed.1

pub store-requires-clause-typed : goal.store-requires-clause-typed
unfolding instr_view
store-requires-clause-typed c =
    let ks = c.requires.kinds in
    let i = c.in-Store in
    let typed : IsTypedInstr ks (Store (array_view i.array) i.site i.is_access (tree_view i.index) (tree_view i.value)) = subst (λ (j : Instr). IsTypedInstr ks (instr_view j)) i.is c.requires.typed in
    tree_over ks c.args.state.layout (tree_view i.value) c.requires.over typed.2.typed

pub store-requires-clause-fits : goal.store-requires-clause-fits
unfolding instr_view
store-requires-clause-fits c =
    let ks = c.requires.kinds in
    let i = c.in-Store in
    let typed : IsTypedInstr ks (Store (array_view i.array) i.site i.is_access (tree_view i.index) (tree_view i.value)) = subst (λ (j : Instr). IsTypedInstr ks (instr_view j)) i.is c.requires.typed in
    fits_over ks c.args.state.layout i.array.variable (tree_view i.value) c.requires.over typed.0.there typed.2

pub guard-requires : goal.guard-requires
unfolding instr_view
guard-requires c =
    let ks = c.requires.kinds in
    let i = c.in-Guard in
    let typed : IsTypedInstr ks (Guard (tree_view i.e) i.sense) = subst (λ (j : Instr). IsTypedInstr ks (instr_view j)) i.is c.requires.typed in
    tree_over ks c.args.state.layout (tree_view i.e) c.requires.over typed

pub guard-requires-in-Check : goal.guard-requires-in-Check
unfolding instr_view
guard-requires-in-Check c =
    let ks = c.requires.kinds in
    let i = c.in-Check in
    let typed : IsTypedInstr ks (Check i.field-0 (tree_view i.e)) = subst (λ (j : Instr). IsTypedInstr ks (instr_view j)) i.is c.requires.typed in
    tree_over ks c.args.state.layout (tree_view i.e) c.requires.over typed

pub all_forgotten-requires-clause-slots : goal.all_forgotten-requires-clause-slots
unfolding instr_view
all_forgotten-requires-clause-slots c =
    let ks = c.requires.kinds in
    let i = c.in-Havoc in
    let typed : IsTypedInstr ks (Havoc i.variable i.int_type i.count) = subst (λ (j : Instr). IsTypedInstr ks (instr_view j)) i.is c.requires.typed in
    subst (HasSlots c.args.state.layout i.variable) typed.2 (has_slots ks c.args.state.layout c.requires.over i.variable typed.0)

pub all_forgotten-requires-clause-value : goal.all_forgotten-requires-clause-value
unfolding instr_view
all_forgotten-requires-clause-value c =
    let ks = c.requires.kinds in
    let i = c.in-Havoc in
    let typed : IsTypedInstr ks (Havoc i.variable i.int_type i.count) = subst (λ (j : Instr). IsTypedInstr ks (instr_view j)) i.is c.requires.typed in
    subst (λ (t : IntType). IsValue t c.any.result) (sym (own_type ks c.args.state.layout c.requires.over i.variable typed.0 ∙ typed.1)) (search rules)

pub all_known-requires-clause-slots : goal.all_known-requires-clause-slots
unfolding instr_view
all_known-requires-clause-slots c =
    let ks = c.requires.kinds in
    let i = c.in-Clear in
    let typed : IsTypedInstr ks (Clear (array_view i.array)) = subst (λ (j : Instr). IsTypedInstr ks (instr_view j)) i.is c.requires.typed in
    array_slots ks c.args.state.layout c.requires.over (array_view i.array) typed

pub load-requires-clause-slots : goal.load-requires-clause-slots
unfolding instr_view
load-requires-clause-slots c =
    let ks = c.requires.kinds in
    let i = c.in-Load in
    let typed : IsTypedInstr ks (Load i.variable (array_view i.array) i.site i.is_access (tree_view i.index)) = subst (λ (j : Instr). IsTypedInstr ks (instr_view j)) i.is c.requires.typed in
    array_slots ks c.args.state.layout c.requires.over (array_view i.array) typed.1

pub store-requires-clause-slots : goal.store-requires-clause-slots
unfolding instr_view
store-requires-clause-slots c =
    let ks = c.requires.kinds in
    let i = c.in-Store in
    let typed : IsTypedInstr ks (Store (array_view i.array) i.site i.is_access (tree_view i.index) (tree_view i.value)) = subst (λ (j : Instr). IsTypedInstr ks (instr_view j)) i.is c.requires.typed in
    array_slots ks c.args.state.layout c.requires.over (array_view i.array) typed.0
