use Rattle.page_file.proofs.OrderLemmas.{orders}
use Rattle.page_file.proofs.laws.one_order.Goals as goal

pub returns : goal.returns
returns c = orders
