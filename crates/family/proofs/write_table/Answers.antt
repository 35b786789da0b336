-- Either table is the family's, and what is written is its cells. Assumes nothing.
use borrow.Author.Rules.{rules}
use Rattle.table.specs.Families.{family_of}
use Rattle.table.proofs.FamilyLaws.{house_of_family}
use Rattle.family.proofs.FamilyTables.{family_written}
use Rattle.family.proofs.write_table.Goals as goal

pub returns-in-House : goal.returns-in-House
returns-in-House c =
    let s = c.args in
    let h = c.house.ensures in
    let t = c.house.result in
    let w = c.write in
    let sheet = house_of_family s.k s.m t h.0 h.1 h.2 in
    rw c.in-House.is (family_written 1 s.k s.m t s.out.now w.new.out (search rules) (search rules) (search rules) c.requires.out_len w.auto.out sheet w.ensures)

pub returns-in_default : goal.returns-in_default
returns-in_default c =
    let s = c.args in
    let w = c.write-in_default in
    family_written (family_of s.family) s.k s.m c.family.result s.out.now w.new.out (search rules) (search rules) (search rules) c.requires.out_len w.auto.out c.family.ensures w.ensures
