use Rattle.console.proofs.Reading.{cut_short}
use Rattle.console.proofs.read_job.Goals as goal

pub returns : goal.returns
returns g c =
    let read = rw (c.take.ensures.limit, c.take.ensures.inner, c.new-text.ensures.items) at c.in_ok-read_to_end.ensures.bytes in
    cut_short _ (g.R.Read.remaining c.args.from) read
