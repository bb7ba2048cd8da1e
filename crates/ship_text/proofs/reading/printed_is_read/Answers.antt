use Rattle.ship_text.proofs.ReadingLaws.{read_as_printed}
use Rattle.ship_text.proofs.reading.printed_is_read.Goals as goal

pub returns : goal.returns
returns c = read_as_printed
