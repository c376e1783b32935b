use Rattle.std.proofs.Common.{◌≡◌, ◌<◌, false, eqb, length, sym, subst, rules}
use Rattle.script.proofs.Cutting.{shorter}
use Rattle.script.proofs.text.WordsIterator.next.Goals.{then-is_empty, else-is_empty}
use Rattle.script.proofs.text.WordsIterator.next.Goals as goal

pub returns-clause-goes : goal.returns-clause-goes
returns-clause-goes c =
    let text = c.self.inside.rest.now in
    let word = c.next_word.ensures in
    elim c.if-is_empty.branch [
      | then-is_empty w ↦ rw w.result-is (search rules)
      | else-is_empty w ↦
          let some = subst (λ v. eqb (length v) 0 ≡ false) word.front (sym w.if-is_empty.ensures) in
          let less = subst (λ l. length l < length text) (sym word.back) (shorter text some) in
          let seen = subst (λ l. length c.next_word.result.1.now < length l) c.self.view_is less in
          rw w.result-is (search rules)
    ]
