use Rattle.page_file.proofs.PageLemmas.{entry_at}
use Rattle.page_file.proofs.laws.where_entries_stand.Goals as goal

pub returns : goal.returns
returns c = entry_at
