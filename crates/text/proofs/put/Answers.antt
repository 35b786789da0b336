-- The copy goes over the part from at on, so what stands before it is kept.
use mathlib.Core.Path.{ap, ◌∙◌}
use mathlib.Core.List.{List, ◌++◌}
use Prim.Native.Nat.{ℕ, ◌-◌}
use lib.ListN.{length, take, drop}
use Rattle.text.proofs.TextLaws.{put_front}
use borrow.Author.Rules.{rules}
use Rattle.text.proofs.put.Goals as goal

pub returns : goal.returns
returns c =
    let at = c.args.at in
    let out = c.args.out.now in (
      search rules,
      λ before text e f.
          ap (λ (ys : List ℕ). take at out ++ (ys ++ drop (length out - at) (drop at out))) c.copy_front.ensures
          ∙ put_front before text out c.args.text.now at e f c.requires,
    )
