-- The sheet is the house family's table. Assumes nothing.
use Rattle.table.proofs.FamilyLaws.{house_of_family}
use Rattle.table.proofs.Table.family.Goals as goal

pub returns-in-House : goal.returns-in-House
returns-in-House c =
    let s = c.args in
    let e = c.house.ensures in
    rw c.in-House.is (house_of_family s.k s.m c.house.result e.0 e.1 e.2)
