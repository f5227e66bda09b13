-- The methods (RFC 9110, section 9.3).
use Rattle.std.specs.Prelude.{ℕ, List, codes}
use Rattle.as4_http.specs.declared.message.Method.{Method}
use Rattle.as4_http.specs.declared.message.Method.TheVariants.{Get, Post}

-- how a head writes a method
abbrev pub method_text : Method → List ℕ
method_text Get = codes "GET"
method_text Post = codes "POST"
