-- What holds of words as terms. Assumes nothing.
use Rattle.std.specs.Prelude.{◌≡◌, true, ◌≢◌}
use Rattle.words.specs.Choice.{proper}
use Rattle.symbolic.specs.Term.{Term}
use Rattle.protocol.specs.Got.{Yes}
use Rattle.protocol.specs.Words.{Hello, Body, Reply, Word, a_hello, a_reply, an_end}
use Rattle.protocol.specs.Symbols.{body_term, claim_term, word_term, read_term}

-- What is read was written so; what is written with a proper list is read back; and different words are different terms, also across kinds.
pub record WordsAreReadOneWay : Type 0 where
  pub as_written : (t : Term) (w : Word Term) → read_term t ≡ Yes w → t ≡ word_term w
  pub hello_back : (h : Hello Term) → proper h.offer ≡ true → read_term (word_term (a_hello h)) ≡ Yes (a_hello h)
  pub reply_back : (r : Reply Term) → proper r.body.hello.offer ≡ true → read_term (word_term (a_reply r)) ≡ Yes (a_reply r)
  pub end_back : (x : Term) → read_term (word_term (an_end x)) ≡ Yes (an_end x)
  pub apart : (v w : Word Term) → word_term v ≡ word_term w → v ≡ w

-- What is signed of a reply determines it, and is never what is signed of an end.
pub record SignedPartsAreApart : Type 0 where
  pub replies : (x y : Body Term) → body_term x ≡ body_term y → x ≡ y
  pub ends : (v w : Term) → claim_term v ≡ claim_term w → v ≡ w
  pub marks : (x : Body Term) (w : Term) → body_term x ≢ claim_term w
