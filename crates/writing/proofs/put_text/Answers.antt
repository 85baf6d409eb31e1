use Rattle.std.proofs.Common.{arith}
use Rattle.writing.proofs.Writings.{wrote_part}
use Rattle.writing.proofs.put_text.Goals as goal

pub returns : goal.returns
returns c =
    let text = c.args.text.now in
    wrote_part c.args.out.now text c.copy_from_slice.new.self c.args.at _ c.copy_from_slice.ensures.after (omega arith) c.requires
