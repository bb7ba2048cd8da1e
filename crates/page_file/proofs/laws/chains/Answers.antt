use Rattle.page_file.proofs.ComponentLemmas.{one_chain, chain_join, chain_split, entries_join, weight_join}
use Rattle.page_file.proofs.laws.chains.Goals as goal

pub returns-clause-one : goal.returns-clause-one
returns-clause-one c = one_chain

pub returns-clause-join : goal.returns-clause-join
returns-clause-join c = λ sizes ps qs end file. (chain_split sizes ps qs end file, λ parts. chain_join sizes ps qs end file parts.0 parts.1)

pub returns-clause-entries : goal.returns-clause-entries
returns-clause-entries c = entries_join

pub returns-clause-weights : goal.returns-clause-weights
returns-clause-weights c = weight_join
