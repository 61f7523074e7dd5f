-- What is written is the answer to the first 8,301 bytes of the input.
use Rattle.std.proofs.Common.{rules, ◌≤◌, length, take, replicate, ap, ◌∙◌}
use Rattle.std.proofs.lemmas.Result.{on_ok_weaker}
use Rattle.run.specs.Answer.{answer_of}
use Rattle.fit.proofs.Bytes.{first_read, placed_front, wrote_of}
use Rattle.fit.proofs.answer.Goals as goal

pub returns : goal.returns
returns g c =
    let n = c.read_full-n.result.0 in
    let read = c.read_full-n.ensures in
    let run = c.run-m.ensures in
    let known = g.R.Read.remaining c.args.input.now in
    let bytes = take n c.read_full-n.new.buf in
    let fits : length bytes ≤ 8301 = search rules in
    let text = ap (take c.run-m.result) run.out_after ∙ placed_front (answer_of bytes) (replicate 24768 0) c.run-m.result run.value (search rules) in
    on_ok_weaker c.read_full-n.result.1
    (λ end. wrote_of answer_of 8301 known (g.W.Write.contents c.args.output.now) (g.W.Write.contents c.write_all.new.self) _ _ c.in_ok-write_all.ensures.bytes text
    (first_read known _ bytes 8301 fits read.bytes (λ few. end (search rules))))
    read.end
