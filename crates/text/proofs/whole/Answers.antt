-- `text::whole` meets its contract. Assumes nothing.
use Rattle.text.proofs.Writing.{handed, withheld}
use Rattle.text.proofs.whole.Goals as goal
use Rattle.text.proofs.whole.Goals.{then-size-out, else-size-out}

pub returns : goal.returns
returns g c = record {
  said = λ text h. elim c.if-size-out.branch [
    | then-size-out w ↦ rw w.out-is (handed (h _ _ _ c.write-size.ensures) w.if-size-out.true (h _ _ _ w.write.ensures))
    | else-size-out w ↦ rw w.out-is (withheld (h _ _ _ c.write-size.ensures) c.args.out.now w.if-size-out.false)
  ];
  measured = (_, _, c.write-size.ensures);
}
