-- Each choice is followed by a later one or by none.
use Rattle.choices.proofs.Ranks.{fewer_left}
use Rattle.class_sheet.proofs.print_rows.Goals as goal

pub loop-next-smaller : goal.loop-next-smaller
loop-next-smaller g c = rw c.in-Some.is (fewer_left c.args.line.k c.args.line.m c.in-Some.c c.next-next.result c.next-next.ensures.some)
