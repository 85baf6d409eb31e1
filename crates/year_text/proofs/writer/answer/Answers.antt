use Rattle.year_text.proofs.Fits.{asked_text}
use Rattle.year_text.proofs.writer.answer.Goals as goal

pub returns : goal.returns
returns c = rw (← asked_text c.args.input.now, ← c.year_asked.ensures) c.render.ensures
