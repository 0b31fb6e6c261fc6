use Rattle.std.proofs.Common.{FitsSigned}
use Rattle.std.specs.Int.{w128}
use Rattle.std.proofs.lemmas.Int.{to_z-of_z}
use Rattle.pk_ctypes.proofs.Values.{eqb-of_z}
use Rattle.pk_ctypes.proofs.operators.apply.Goals as goal

pub returns-in-And : goal.returns-in-And
returns-in-And c =
    let left : FitsSigned w128 c.args.a = c.ranges.a in
    let right : FitsSigned w128 c.args.b = c.ranges.b in
    rw c.in-And.is (simp to_z-of_z at c.and.ensures)

pub returns-in-Or : goal.returns-in-Or
returns-in-Or c =
    let left : FitsSigned w128 c.args.a = c.ranges.a in
    let right : FitsSigned w128 c.args.b = c.ranges.b in
    rw c.in-Or.is (simp to_z-of_z at c.or.ensures)

pub returns-in-Xor : goal.returns-in-Xor
returns-in-Xor c =
    let left : FitsSigned w128 c.args.a = c.ranges.a in
    let right : FitsSigned w128 c.args.b = c.ranges.b in
    rw c.in-Xor.is (simp to_z-of_z at c.xor.ensures)

pub returns-in-BitNot : goal.returns-in-BitNot
returns-in-BitNot c =
    let left : FitsSigned w128 c.args.a = c.ranges.a in
    rw c.in-BitNot.is (simp to_z-of_z at c.bit_not.ensures)

pub returns-in-Eq : goal.returns-in-Eq
returns-in-Eq c =
    let same = eqb-of_z c.args.a c.args.b c.ranges.a c.ranges.b in
    rw c.in-Eq.is (rw same at c.compared-in-Eq.ensures)

pub returns-in-Ne : goal.returns-in-Ne
returns-in-Ne c =
    let same = eqb-of_z c.args.a c.args.b c.ranges.a c.ranges.b in
    rw c.in-Ne.is (rw same at c.compared-in-Ne.ensures)

pub returns-in-Lt : goal.returns-in-Lt
returns-in-Lt c =
    let left : FitsSigned w128 c.args.a = c.ranges.a in
    let right : FitsSigned w128 c.args.b = c.ranges.b in
    rw c.in-Lt.is (simp to_z-of_z at c.compared.ensures)

pub returns-in-Gt : goal.returns-in-Gt
returns-in-Gt c =
    let left : FitsSigned w128 c.args.a = c.ranges.a in
    let right : FitsSigned w128 c.args.b = c.ranges.b in
    rw c.in-Gt.is (simp to_z-of_z at c.compared-in-Gt.ensures)

pub returns-in-Le : goal.returns-in-Le
returns-in-Le c =
    let left : FitsSigned w128 c.args.a = c.ranges.a in
    let right : FitsSigned w128 c.args.b = c.ranges.b in
    rw c.in-Le.is (simp to_z-of_z at c.compared-in-Le.ensures)

pub returns-in-Ge : goal.returns-in-Ge
returns-in-Ge c =
    let left : FitsSigned w128 c.args.a = c.ranges.a in
    let right : FitsSigned w128 c.args.b = c.ranges.b in
    rw c.in-Ge.is (simp to_z-of_z at c.compared-in-Ge.ensures)
