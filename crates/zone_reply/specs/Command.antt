-- What the command is given, what it prints and the status that it gives.
use Rattle.std.specs.Prelude.{◌≡◌, ◌⊎◌, ◌++◌, ℕ, nat_eq, cond, List, [], ◌∷◌, Option, Some, None, codes}
use Rattle.std.specs.Cmp.Lexicographic.{pointwise}
use Rattle.std.specs.Io.KnownBytes.{Appends}
use Rattle.wire_messages.specs.declared.protocol.Protocol.TheVariants.{Udp, Tcp}
use Rattle.hickory_server.specs.declared.TheConstants.{VERSION}
use Rattle.zone_reply.specs.declared.command.TheConstants.{HELP}
use Rattle.zone_reply.specs.declared.command.Command.{Command}
use Rattle.zone_reply.specs.declared.command.Command.TheVariants.{Answer, Help, Version}
use Rattle.zone_reply.specs.declared.command.Refusal.{Refusal}
use Rattle.zone_reply.specs.declared.command.Refusal.TheVariants.{Usage, NotHex, Unreadable, Memory}

-- the command of this name
abbrev pub command_named : List ℕ → Option Command
command_named name =
    cond (pointwise nat_eq name (codes "udp")) (Some (Answer Udp))
    (cond (pointwise nat_eq name (codes "tcp")) (Some (Answer Tcp))
    (cond (pointwise nat_eq name (codes "--version")) (Some Version)
    (cond (pointwise nat_eq name (codes "--help")) (Some Help)
    (cond (pointwise nat_eq name (codes "-h")) (Some Help) None))))

-- the command that the arguments name: there is just one, and it is `udp`, `tcp`, `--version`, `--help` or `-h`
abbrev pub command_of : List (List ℕ) → Option Command
command_of [] = None
command_of (name ∷ []) = command_named name
command_of (name ∷ other ∷ others) = None

-- the line of the program's name and version
abbrev pub version_line : List ℕ
version_line = codes "zone_reply " ++ VERSION.now ++ codes "\n"

-- the lines that tell how the program is started
abbrev pub help_lines : List ℕ
help_lines = HELP.now ++ codes "\n"

-- the line that tells a refusal, with its newline
abbrev pub refusal_line : Refusal → List ℕ
refusal_line Usage = codes "expected one argument: udp, tcp, --version or --help\n"
refusal_line NotHex = codes "not hex\n"
refusal_line Unreadable = codes "unreadable\n"
refusal_line Memory = codes "no memory\n"

-- the status that tells a refusal
abbrev pub refusal_status : Refusal → ℕ
refusal_status Usage = 2
refusal_status NotHex = 2
refusal_status Unreadable = 1
refusal_status Memory = 3

-- The line was put behind what the writer held, and the status is given; or printing failed, which status 4 tells.
abbrev pub IsPrinted : Option (List ℕ) → Option (List ℕ) → List ℕ → ℕ → ℕ → Type 0
IsPrinted old new line status given = ((given ≡ status) × Appends old new line) ⊎ (given ≡ 4)
