use Rattle.code_places.proofs.ItemLemmas.{item_told, loops_have_heads, pardos_have_heads, wheres_stand}
use Rattle.code_places.proofs.laws.instructions_tell_the_work.Goals as goal

pub returns : goal.returns
returns c = record { item = item_told; loops = loops_have_heads; pardos = pardos_have_heads; wheres = wheres_stand }
