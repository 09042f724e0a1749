use Rattle.std.specs.String.{string_bytes}
use Rattle.scc_play.proofs.Ending.{ends_read}
use Rattle.scc_play.proofs.play.play_explaining.Goals as goal

pub returns-in-Ok-answer_script-clause-ends : goal.returns-in-Ok-answer_script-clause-ends
returns-in-Ok-answer_script-clause-ends g c =
    let answered = rw c.as_slice-text.ensures.value at c.in-Ok-answer_script.ensures in
    let written = rw c.as_str.ensures.value at c.finish-in-Ok-answer_script.ensures.bytes in
    ends_read (g.R.Read.remaining c.args.reader.now) (g.W.Write.contents c.args.writer.now) (g.W.Write.contents c.finish-in-Ok-answer_script.new.writer) c.in-Ok.script.items (string_bytes c.in-Ok-answer_script.answer.text) c.in-Ok-answer_script.answer.status c.finish-in-Ok-answer_script.result c.in-Ok.ensures answered c.finish-in-Ok-answer_script.ensures.status written
