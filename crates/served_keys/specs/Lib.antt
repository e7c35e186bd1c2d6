pub mod ServedKeys
