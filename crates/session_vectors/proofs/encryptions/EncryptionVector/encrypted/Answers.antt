use Rattle.std.proofs.Common.{◌≡◌, false, length, Err, sym, refl, ap, ◌∙◌, subst, rules}
use Rattle.std.proofs.lemmas.Result.{err_from_is_err_and}
use Rattle.ciphers.specs.ChaCha20.{suffices}
use Rattle.session_vectors.proofs.WrittenBack.{turned_back}
use Rattle.session_vectors.specs.Encrypted.{Encrypts}
use Rattle.session_vectors.proofs.encryptions.EncryptionVector.encrypted.Goals as goal

pub returns-in_err-bytes : goal.returns-in_err-bytes
returns-in_err-bytes c =
    let v = c.args.self.now in
    let err = err_from_is_err_and c.from_residual.result c.from_residual.ensures.1 in
    subst (Encrypts v.key v.counter v.nonce v.text.now) (sym (err.1 ∙ ap Err err.2)) tt

pub returns-in_err-turn : goal.returns-in_err-turn
returns-in_err-turn c =
    let v = c.args.self.now in
    let same : c.deref_mut.result.now ≡ v.text.now = search rules in
    let err = err_from_is_err_and c.from_residual-in_err-turn.result c.from_residual-in_err-turn.ensures.1 in
    subst (Encrypts v.key v.counter v.nonce v.text.now) (sym (err.1 ∙ ap Err err.2)) (subst (λ t. suffices v.counter (length t) ≡ false) same c.in_err-turn.ensures.0, refl)

pub returns : goal.returns
returns c =
    let v = c.args.self.now in
    let same : c.deref_mut.result.now ≡ v.text.now = search rules in
    let size : c.in_ok-bytes.bytes.len ≡ length v.text.now = search rules in
    turned_back v.key v.counter v.nonce v.text.now c.deref_mut.result.now c.turn.new.bytes c.in_ok-bytes.bytes.items c.in_ok-bytes.bytes.len same size c.in_ok-turn.ensures
