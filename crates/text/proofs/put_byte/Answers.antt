-- The byte at the place is set, and no other.
use borrow.Author.Rules.{rules}
use Rattle.text.proofs.TextLaws.{put_one}
use Rattle.text.proofs.put_byte.Goals as goal

pub returns : goal.returns
returns c = (search rules, put_one c.args.out.now c.args.at c.args.byte c.requires)
