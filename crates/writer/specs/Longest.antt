-- That a length is reached (document 02, item 4).
use Rattle.std.specs.Prelude.{◌≡◌, List, ℕ}
use Rattle.wire.specs.Number.{Bytes}
use Rattle.message.specs.declared.frame.Header.{Header}
use Rattle.message.specs.Read.{Good, read_of}
use Rattle.writer.specs.Plain.{plain_of}

-- there is a good message of this type that has n bytes and is in plain form
pub record Attained (messagetype n : ℕ) : Type 0 where
  pub bytes : List ℕ
  pub real : Bytes bytes
  pub header : Header
  pub of-type : header.messagetype ≡ messagetype
  pub read : read_of bytes ≡ Good header n
  pub plain : plain_of bytes ≡ bytes
