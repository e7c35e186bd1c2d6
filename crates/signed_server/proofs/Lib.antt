mod Courses
mod Keyless
mod Puts
mod Uncut
mod Verified
