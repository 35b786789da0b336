-- Each choice is followed by a later one or by none.
use Rattle.choices.proofs.Ranks.{left}
use Rattle.class_sheet.proofs.print_rows.Given as goal

abbrev pub decreases-loop-next : goal.decreases-loop-next
decreases-loop-next g l = left l.next
