use Rattle.std.proofs.Common.{rules, List, ℕ, [], ap, sym, ◌∙◌}
use Rattle.std.specs.List.{flat_map}
use Rattle.std.proofs.Output.{has_written_append, has_written_of_eq}
use Rattle.std.proofs.lemmas.List.{flat_map_more, map-id}
use Rattle.std.proofs.lemmas.Iterator.{YieldsList-from_chars}
use Rattle.std.proofs.lemmas.Iterator.Consumers.{YieldsList-end}
use Rattle.text.specs.SumLine.{escaped}
use Rattle.text.proofs.sum_line.EscapedDisplay.fmt.Goals as goal

pub loop-c-preserved : goal.loop-c-preserved
loop-c-preserved g c plain =
    has_written_of_eq _ _ _ _ _ (flat_map_more escaped [] c.loop-c.yielded c.in-Some.c) (has_written_append _ _ _ _ _ _ (c.loop-c.invariant plain) (search rules))

pub returns-clause-writes : goal.returns-clause-writes
returns-clause-writes g c plain _ =
    let all = YieldsList-end (YieldsList-from_chars c.args.self.now.name.now (search rules) (search rules)) c.loop-c.yielded c.loop-c.c-iterator c.loop-c.yielded_by c.next.result c.next.new.self c.in-None.is c.next.ensures.steps in
    has_written_of_eq _ _ _ _ _ (ap (λ (cs : List ℕ). flat_map escaped cs) (sym (map-id c.loop-c.yielded) ∙ all.0)) (c.loop-c.invariant plain)
